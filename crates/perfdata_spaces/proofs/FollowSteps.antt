-- Spaces that are those after effects are, once one more effect is applied, those after that one too.
use Rattle.std.proofs.Common.{◌≡◌, ◌∙◌, ◌<◌, ◌^◌, ◌&&◌, ap, refl, sym, arith, ℕ, ℤ, Bool, true, false, cond, List, [], ◌∷◌, ◌++◌, length, length-append, Option, None, Some}
use Rattle.std.proofs.lemmas.List.{append-nil}
use Rattle.std.specs.Option.{option_map}
use Rattle.perfdata_spaces.specs.Effects.{SpaceEffect, Maps, MapsKernel, Registers, Removes, Copies, Clears, Leaves, Numbered, added}
use Rattle.perfdata_spaces.specs.Histories.{IndexedMapping, indexed_contains, at_index, resets, mapping_at_for, last_that, kernel_mapping, kernel_mapping_at, kernel_mappings, changes_symbol, changes_symbol_at, registered, symbol_at}
use Rattle.perfdata_spaces.specs.Mappings.{MappingValue, mapping_contains}
use Rattle.perfdata_spaces.specs.Processes.{value_in, is_same}
use Rattle.perfdata_spaces.specs.Ranges.{value_of, contains}
use Rattle.perfdata_spaces.specs.Spaces.{IsIndexOf, FollowsProcess, FollowsSpaces, values_of}
use Rattle.perfdata_spaces.specs.steps.Spaces.{Applies, KeepsSpaces}
use Rattle.perfdata_spaces.specs.declared.spaces.Spaces.{Spaces}
use Rattle.perfdata_spaces.proofs.Lists.{slice_get_more, slice_get_last, last_that_push, flat_map_push}
use Rattle.perfdata_spaces.proofs.HistorySteps.{history_push, history_cleared, history_copied}

abbrev indexed : ℕ → MappingValue → IndexedMapping
indexed index mapping = record { index = index; mapping = mapping }

pub index_kept : (mappings more : List MappingValue) (index : Option ℕ) (found : Option IndexedMapping) → IsIndexOf mappings index found → IsIndexOf (mappings ++ more) index found
index_kept mappings more None found is = is
index_kept mappings more (Some index) found is = (omega (arith, length-append mappings more, is.0), ap (option_map (indexed index)) (slice_get_more mappings more index is.0) ∙ is.1)

-- The same of values that are equal to those.
index_kept_as : (mappings all more : List MappingValue) (index old : Option ℕ) (found old_found : Option IndexedMapping) → all ≡ mappings ++ more → index ≡ old → found ≡ old_found → IsIndexOf mappings old old_found → IsIndexOf all index found
index_kept_as mappings all more index old found old_found values same found_same is =
    rw (values, same, found_same) (index_kept mappings more old old_found is)

index_added : (mappings all : List MappingValue) (mapping : MappingValue) → all ≡ mappings ++ mapping ∷ [] → IsIndexOf all (Some (length mappings)) (Some (indexed (length mappings) mapping))
index_added mappings all mapping values = rw values (omega (arith, length-append mappings (mapping ∷ [])), ap (option_map (indexed (length mappings))) (slice_get_last mappings mapping))

-- A mapping is added if `adds`.
index_mapped : (adds within : Bool) (mappings all : List MappingValue) (mapping : MappingValue) (old : Option ℕ) (found : Option IndexedMapping) → all ≡ mappings ++ mapping ∷ [] → IsIndexOf mappings old found → IsIndexOf all (cond (adds && within) (Some (length mappings)) old) (cond adds (cond within (Some (indexed (length mappings) mapping)) found) found)
index_mapped true true mappings all mapping old found values is = index_added mappings all mapping values
index_mapped true false mappings all mapping old found values is = index_kept_as mappings all (mapping ∷ []) old old found found values refl refl is
index_mapped false within mappings all mapping old found values is = index_kept_as mappings all (mapping ∷ []) old old found found values refl refl is

found_push : (adds : Bool) (test : IndexedMapping → Bool) (history : List IndexedMapping) (mapping : IndexedMapping) → last_that test (history ++ cond adds (mapping ∷ []) []) ≡ cond adds (cond (test mapping) (Some mapping) (last_that test history)) (last_that test history)
found_push true test history mapping = last_that_push test history mapping
found_push false test history mapping = ap (last_that test) (append-nil history)

module _ (effects : List Numbered) (old new : Spaces) (index : Option ℕ) (follows : FollowsSpaces effects old) where
  -- The effect as it is applied to the old spaces.
  abbrev next : ℕ
  next = length (values_of old)

  abbrev then_applied : SpaceEffect → List Numbered
  then_applied effect = effects ++ at_index next effect ∷ []

  -- Nothing changes in a process.
  process_kept : (effect : SpaceEffect) (pid : ℤ) (more : List MappingValue) → resets pid effect ≡ false → mapping_at_for next pid effect ≡ [] → values_of new ≡ values_of old ++ more → ((address : ℕ) → address < 2 ^ 64 → value_in new.processes pid address ≡ value_in old.processes pid address) → FollowsProcess (then_applied effect) new pid
  process_kept effect pid more kept none values same =
      let process = follows.processes pid in
      let longer : process.history ++ mapping_at_for next pid effect ≡ process.history = ap (λ ms. process.history ++ ms) none ∙ append-nil process.history in
      record {
        history = process.history ++ mapping_at_for next pid effect;
        is = history_push pid effects process.history (at_index next effect) kept process.is;
        finds = λ address fits. index_kept_as (values_of old) (values_of new) more _ _ _ _ values (same address fits) (ap (last_that (indexed_contains address)) longer) (process.finds address fits);
      }

  process_mapped : (owner pid : ℤ) (mapping : MappingValue) → Applies (Maps owner mapping) old index new → FollowsProcess (then_applied (Maps owner mapping)) new pid
  process_mapped owner pid mapping applies =
      let process = follows.processes pid in
      record {
        history = process.history ++ cond (is_same owner pid) (indexed next mapping ∷ []) [];
        is = history_push pid effects process.history (at_index next (Maps owner mapping)) refl process.is;
        finds = λ address fits. rw (applies.processes pid address fits, found_push (is_same owner pid) (indexed_contains address) process.history (indexed next mapping)) (index_mapped (is_same owner pid) (mapping_contains address mapping) (values_of old) (values_of new) mapping _ _ applies.mappings (process.finds address fits));
      }

  process_copied : (child parent pid : ℤ) (same : Bool) → is_same child pid ≡ same → Applies (Copies child parent) old index new → FollowsProcess (then_applied (Copies child parent)) new pid
  process_copied child parent pid true is applies =
      let process = follows.processes parent in
      record {
        history = process.history;
        is = history_copied pid child parent effects next process.history is process.is;
        finds = λ address fits. index_kept_as (values_of old) (values_of new) [] _ _ _ _ applies.mappings (rw is at (applies.processes pid address fits)) refl (process.finds address fits);
      }
  process_copied child parent pid false is applies =
      process_kept (Copies child parent) pid [] is refl applies.mappings (λ address fits. rw is at (applies.processes pid address fits))

  process_cleared : (owner pid : ℤ) (same : Bool) → is_same owner pid ≡ same → Applies (Clears owner) old index new → FollowsProcess (then_applied (Clears owner)) new pid
  process_cleared owner pid true is applies = record {
    history = [];
    is = history_cleared pid owner effects next is;
    finds = λ address fits. rw (applies.processes pid address fits, is) refl;
  }
  process_cleared owner pid false is applies =
      process_kept (Clears owner) pid [] is refl applies.mappings (λ address fits. rw is at (applies.processes pid address fits))

  process_step : (effect : SpaceEffect) (pid : ℤ) → Applies effect old index new → FollowsProcess (then_applied effect) new pid
  process_step (Maps owner mapping) pid applies = process_mapped owner pid mapping applies
  process_step (MapsKernel mapping) pid applies = process_kept (MapsKernel mapping) pid (mapping ∷ []) refl refl applies.mappings (applies.processes pid)
  process_step (Registers mapping) pid applies = process_kept (Registers mapping) pid (mapping ∷ []) refl refl applies.mappings (applies.processes pid)
  process_step (Removes start size) pid applies = process_kept (Removes start size) pid [] refl refl applies.mappings (applies.processes pid)
  process_step (Copies child parent) pid applies = process_copied child parent pid (is_same child pid) refl applies
  process_step (Clears owner) pid applies = process_cleared owner pid (is_same owner pid) refl applies
  process_step Leaves pid applies = process_kept Leaves pid [] refl refl applies.mappings (applies.processes pid)

  -- Nothing changes in the kernel's space.
  kernel_kept : (effect : SpaceEffect) (more : List MappingValue) → kernel_mapping_at next effect ≡ [] → values_of new ≡ values_of old ++ more → (address : ℕ) → address < 2 ^ 64 → value_of new.kernel address ≡ value_of old.kernel address → IsIndexOf (values_of new) (value_of new.kernel address) (last_that (indexed_contains address) (kernel_mappings (then_applied effect)))
  kernel_kept effect more none values address fits same =
      index_kept_as (values_of old) (values_of new) more _ _ _ _ values same (ap (last_that (indexed_contains address)) (flat_map_push kernel_mapping effects (at_index next effect) ∙ ap (λ ms. kernel_mappings effects ++ ms) none ∙ append-nil (kernel_mappings effects))) (follows.kernel address fits)

  kernel_mapped : (mapping : MappingValue) → Applies (MapsKernel mapping) old index new → (address : ℕ) → address < 2 ^ 64 → IsIndexOf (values_of new) (value_of new.kernel address) (last_that (indexed_contains address) (kernel_mappings (then_applied (MapsKernel mapping))))
  kernel_mapped mapping applies address fits =
      rw (applies.kernel address fits, flat_map_push kernel_mapping effects (at_index next (MapsKernel mapping)), last_that_push (indexed_contains address) (kernel_mappings effects) (indexed next mapping))
      (index_mapped true (mapping_contains address mapping) (values_of old) (values_of new) mapping _ _ applies.mappings (follows.kernel address fits))

  kernel_step : (effect : SpaceEffect) → Applies effect old index new → (address : ℕ) → address < 2 ^ 64 → IsIndexOf (values_of new) (value_of new.kernel address) (last_that (indexed_contains address) (kernel_mappings (then_applied effect)))
  kernel_step (Maps owner mapping) applies address fits = kernel_kept (Maps owner mapping) (mapping ∷ []) refl applies.mappings address fits (applies.kernel address fits)
  kernel_step (MapsKernel mapping) applies address fits = kernel_mapped mapping applies address fits
  kernel_step (Registers mapping) applies address fits = kernel_kept (Registers mapping) (mapping ∷ []) refl applies.mappings address fits (applies.kernel address fits)
  kernel_step (Removes start size) applies address fits = kernel_kept (Removes start size) [] refl applies.mappings address fits (applies.kernel address fits)
  kernel_step (Copies child parent) applies address fits = kernel_kept (Copies child parent) [] refl applies.mappings address fits (applies.kernel address fits)
  kernel_step (Clears owner) applies address fits = kernel_kept (Clears owner) [] refl applies.mappings address fits (applies.kernel address fits)
  kernel_step Leaves applies address fits = kernel_kept Leaves [] refl applies.mappings address fits (applies.kernel address fits)

  -- Nothing changes for the symbol at an address.
  symbol_kept : (effect : SpaceEffect) (more : List MappingValue) (address : ℕ) → address < 2 ^ 64 → changes_symbol address effect ≡ false → values_of new ≡ values_of old ++ more → value_of new.symbols address ≡ value_of old.symbols address → IsIndexOf (values_of new) (value_of new.symbols address) (symbol_at address (then_applied effect))
  symbol_kept effect more address fits kept values same =
      let last = last_that_push (changes_symbol_at address) effects (at_index next effect) ∙ ap (λ b. cond b (Some (at_index next effect)) (last_that (changes_symbol_at address) effects)) kept in
      index_kept_as (values_of old) (values_of new) more _ _ _ _ values same (ap registered last) (follows.symbols address fits)

  symbol_registered : (mapping : MappingValue) (address : ℕ) (within : Bool) → mapping_contains address mapping ≡ within → address < 2 ^ 64 → Applies (Registers mapping) old index new → IsIndexOf (values_of new) (value_of new.symbols address) (symbol_at address (then_applied (Registers mapping)))
  symbol_registered mapping address true is fits applies =
      rw (applies.symbols address fits, last_that_push (changes_symbol_at address) effects (at_index next (Registers mapping)), is) (index_added (values_of old) (values_of new) mapping applies.mappings)
  symbol_registered mapping address false is fits applies =
      symbol_kept (Registers mapping) (mapping ∷ []) address fits is applies.mappings (rw is at (applies.symbols address fits))

  symbol_removed : (start size address : ℕ) (within : Bool) → contains start size address ≡ within → address < 2 ^ 64 → Applies (Removes start size) old index new → IsIndexOf (values_of new) (value_of new.symbols address) (symbol_at address (then_applied (Removes start size)))
  symbol_removed start size address true is fits applies =
      rw (applies.symbols address fits, last_that_push (changes_symbol_at address) effects (at_index next (Removes start size)), is) refl
  symbol_removed start size address false is fits applies =
      symbol_kept (Removes start size) [] address fits is applies.mappings (rw is at (applies.symbols address fits))

  symbol_step : (effect : SpaceEffect) → Applies effect old index new → (address : ℕ) → address < 2 ^ 64 → IsIndexOf (values_of new) (value_of new.symbols address) (symbol_at address (then_applied effect))
  symbol_step (Maps owner mapping) applies address fits = symbol_kept (Maps owner mapping) (mapping ∷ []) address fits refl applies.mappings (applies.symbols address fits)
  symbol_step (MapsKernel mapping) applies address fits = symbol_kept (MapsKernel mapping) (mapping ∷ []) address fits refl applies.mappings (applies.symbols address fits)
  symbol_step (Registers mapping) applies address fits = symbol_registered mapping address (mapping_contains address mapping) refl fits applies
  symbol_step (Removes start size) applies address fits = symbol_removed start size address (contains start size address) refl fits applies
  symbol_step (Copies child parent) applies address fits = symbol_kept (Copies child parent) [] address fits refl applies.mappings (applies.symbols address fits)
  symbol_step (Clears owner) applies address fits = symbol_kept (Clears owner) [] address fits refl applies.mappings (applies.symbols address fits)
  symbol_step Leaves applies address fits = symbol_kept Leaves [] address fits refl applies.mappings (applies.symbols address fits)

  pub follows_step : (effect : SpaceEffect) → Applies effect old index new → FollowsSpaces (then_applied effect) new
  follows_step effect applies = record {
    mappings = applies.mappings ∙ ap (λ ms. ms ++ added effect) follows.mappings ∙ sym (flat_map_push (λ (n : Numbered). added n.effect) effects (at_index next effect));
    processes = λ pid. process_step effect pid applies;
    kernel = kernel_step effect applies;
    symbols = symbol_step effect applies;
  }

  pub follows_kept : KeepsSpaces old new → FollowsSpaces effects new
  follows_kept keeps =
      let values : values_of new ≡ values_of old ++ [] = keeps.mappings ∙ sym (append-nil (values_of old)) in
      record {
        mappings = keeps.mappings ∙ follows.mappings;
        processes = λ pid. record {
          history = (follows.processes pid).history;
          is = (follows.processes pid).is;
          finds = λ address fits. index_kept_as (values_of old) (values_of new) [] _ _ _ _ values (keeps.processes pid address) refl ((follows.processes pid).finds address fits);
        };
        kernel = λ address fits. index_kept_as (values_of old) (values_of new) [] _ _ _ _ values (keeps.kernel address) refl (follows.kernel address fits);
        symbols = λ address fits. index_kept_as (values_of old) (values_of new) [] _ _ _ _ values (keeps.symbols address) refl (follows.symbols address fits);
      }
