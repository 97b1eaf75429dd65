-- Effects give a process exactly one history.
use Rattle.std.proofs.Common.{◌≡◌, ◌∙◌, ◌+◌, ap, refl, sym, ℕ, ℤ, Bool, true, false, cond, List, [], ◌∷◌, ◌++◌, length, None, append_assoc}
use Rattle.std.proofs.lemmas.List.{append-nil}
use Rattle.std.proofs.lemmas.List.Elements.{All-nil, All-head, All-tail}
use Rattle.std.proofs.lemmas.Cmp.{int_cmp_total, tied_itself}
use Rattle.std.specs.Option.{option_or}
use Rattle.std.specs.Ordering.{is_eq}
use Rattle.perfdata_events.specs.declared.fields.call_chain.CallContext.TheVariants.{Hypervisor, Kernel, User, Guest, GuestKernel, GuestUser, Unknown}
use Rattle.perfdata_spaces.specs.Effects.{SpaceEffect, Maps, MapsKernel, Registers, Removes, Copies, Clears, Leaves, Numbered, added, numbered, numbered_from}
use Rattle.perfdata_spaces.specs.Histories.{IndexedMapping, IsHistory, never_reset, cleared, forked, resets, NoneResets, mapping_for, mapping_at_for, mappings_of, at_index, last_that, indexed_contains, kernel_mappings, symbol_at}
use Rattle.perfdata_spaces.specs.Laws.{FindsOne, HasOneHistory}
use Rattle.perfdata_spaces.specs.Processes.{is_same}
use Rattle.perfdata_spaces.proofs.HistorySteps.{history_push, history_cleared, history_copied}

-- The mappings of each process after an effect, and after effects.
abbrev Mapped : Type 0
Mapped = ℤ → List IndexedMapping

abbrev after_at : ℕ → SpaceEffect → Mapped → Mapped
after_at index (Maps owner mapping) old pid = old pid ++ cond (is_same owner pid) (record { index = index; mapping = mapping } ∷ []) []
after_at index (Copies child parent) old pid = cond (is_same child pid) (old parent) (old pid)
after_at index (Clears owner) old pid = cond (is_same owner pid) [] (old pid)
after_at index (MapsKernel mapping) old pid = old pid
after_at index (Registers mapping) old pid = old pid
after_at index (Removes start size) old pid = old pid
after_at index Leaves old pid = old pid

abbrev after : Numbered → Mapped → Mapped
after effect old = after_at effect.index effect.effect old

abbrev after_all : List Numbered → Mapped → Mapped
after_all [] old = old
after_all (effect ∷ effects) old = after_all effects (after effect old)

abbrev nothing : Mapped
nothing pid = []

after_append : (first second : List Numbered) (old : Mapped) → after_all (first ++ second) old ≡ after_all second (after_all first old)
after_append [] second old = refl
after_append (effect ∷ first) second old = after_append first second (after effect old)

after_kept : (pid : ℤ) (index : ℕ) (effect : SpaceEffect) (old : Mapped) → resets pid effect ≡ false → after_at index effect old pid ≡ old pid ++ mapping_at_for index pid effect
after_kept pid index (Maps owner mapping) old kept = refl
after_kept pid index (Copies child parent) old kept = ap (λ same. cond same (old parent) (old pid)) kept ∙ sym (append-nil (old pid))
after_kept pid index (Clears owner) old kept = ap (λ same. cond same [] (old pid)) kept ∙ sym (append-nil (old pid))
after_kept pid index (MapsKernel mapping) old kept = sym (append-nil (old pid))
after_kept pid index (Registers mapping) old kept = sym (append-nil (old pid))
after_kept pid index (Removes start size) old kept = sym (append-nil (old pid))
after_kept pid index Leaves old kept = sym (append-nil (old pid))

after_all_kept : (pid : ℤ) (effects : List Numbered) (old : Mapped) → NoneResets pid effects → after_all effects old pid ≡ old pid ++ mappings_of pid effects
after_all_kept pid [] old none = sym (append-nil (old pid))
after_all_kept pid (effect ∷ effects) old none =
    let rest = after_all_kept pid effects (after effect old) (All-tail (λ (e : Numbered). resets pid e.effect ≡ false) effect effects none) in
    let first = after_kept pid effect.index effect.effect old (All-head (λ (e : Numbered). resets pid e.effect ≡ false) effect effects none) in
    rest ∙ ap (λ ms. ms ++ mappings_of pid effects) first ∙ append_assoc (old pid) (mapping_for pid effect) (mappings_of pid effects)

pub same_itself : (pid : ℤ) → is_same pid pid ≡ true
same_itself pid = ap is_eq (tied_itself int_cmp_total pid)

history_is : (pid : ℤ) (effects : List Numbered) (history : List IndexedMapping) → IsHistory pid effects history → history ≡ after_all effects nothing pid
history_is pid effects history (never_reset _ _ _ none is) = is ∙ sym (after_all_kept pid effects nothing none)
history_is pid effects history (cleared _ _ earlier later index _ split none is) =
    let before = after_all earlier nothing in
    let clears = at_index index (Clears pid) in
    let ran : after_all effects nothing pid ≡ after_all later (after clears before) pid = ap (λ es. after_all es nothing pid) split ∙ ap (λ ms. ms pid) (after_append earlier (clears ∷ later) nothing) in
    let empty : after clears before pid ≡ [] = ap (λ same. cond same [] (before pid)) (same_itself pid) in
    is ∙ sym (ran ∙ after_all_kept pid later (after clears before) none ∙ ap (λ ms. ms ++ mappings_of pid later) empty)
history_is pid effects history (forked _ parent _ earlier later index inherited _ split none from is) =
    let before = after_all earlier nothing in
    let copies = at_index index (Copies pid parent) in
    let ran : after_all effects nothing pid ≡ after_all later (after copies before) pid = ap (λ es. after_all es nothing pid) split ∙ ap (λ ms. ms pid) (after_append earlier (copies ∷ later) nothing) in
    let given : after copies before pid ≡ inherited = ap (λ same. cond same (before parent) (before pid)) (same_itself pid) ∙ sym (history_is parent earlier inherited from) in
    is ∙ sym (ran ∙ after_all_kept pid later (after copies before) none ∙ ap (λ ms. ms ++ mappings_of pid later) given)

-- There is a history.
abbrev HasHistory : List Numbered → ℤ → Type 0
HasHistory effects pid = (history : List IndexedMapping) × IsHistory pid effects history

has_kept : (effects : List Numbered) (effect : Numbered) (pid : ℤ) → resets pid effect.effect ≡ false → HasHistory effects pid → HasHistory (effects ++ effect ∷ []) pid
has_kept effects effect pid kept has = (has.0 ++ mapping_for pid effect, history_push pid effects has.0 effect kept has.1)

has_copied : (effects : List Numbered) (index : ℕ) (child parent pid : ℤ) (same : Bool) → is_same child pid ≡ same → ((other : ℤ) → HasHistory effects other) → HasHistory (effects ++ at_index index (Copies child parent) ∷ []) pid
has_copied effects index child parent pid true is has = ((has parent).0, history_copied pid child parent effects index (has parent).0 is (has parent).1)
has_copied effects index child parent pid false is has = has_kept effects (at_index index (Copies child parent)) pid is (has pid)

has_cleared : (effects : List Numbered) (index : ℕ) (owner pid : ℤ) (same : Bool) → is_same owner pid ≡ same → HasHistory effects pid → HasHistory (effects ++ at_index index (Clears owner) ∷ []) pid
has_cleared effects index owner pid true is has = ([], history_cleared pid owner effects index is)
has_cleared effects index owner pid false is has = has_kept effects (at_index index (Clears owner)) pid is has

has_step : (effects : List Numbered) (index : ℕ) (effect : SpaceEffect) → ((pid : ℤ) → HasHistory effects pid) → (pid : ℤ) → HasHistory (effects ++ at_index index effect ∷ []) pid
has_step effects index (Maps owner mapping) has pid = has_kept effects (at_index index (Maps owner mapping)) pid refl (has pid)
has_step effects index (MapsKernel mapping) has pid = has_kept effects (at_index index (MapsKernel mapping)) pid refl (has pid)
has_step effects index (Registers mapping) has pid = has_kept effects (at_index index (Registers mapping)) pid refl (has pid)
has_step effects index (Removes start size) has pid = has_kept effects (at_index index (Removes start size)) pid refl (has pid)
has_step effects index (Copies child parent) has pid = has_copied effects index child parent pid (is_same child pid) refl has
has_step effects index (Clears owner) has pid = has_cleared effects index owner pid (is_same owner pid) refl (has pid)
has_step effects index Leaves has pid = has_kept effects (at_index index Leaves) pid refl (has pid)

has_all : (before : List Numbered) (first : ℕ) (effects : List SpaceEffect) → ((pid : ℤ) → HasHistory before pid) → (pid : ℤ) → HasHistory (before ++ numbered_from first effects) pid
has_all before first [] has pid = rw (append-nil before) (has pid)
has_all before first (effect ∷ effects) has pid =
    let rest = numbered_from (first + length (added effect)) effects in
    rw (sym (append_assoc before (at_index first effect ∷ []) rest)) (has_all (before ++ at_index first effect ∷ []) (first + length (added effect)) effects (has_step before first effect has) pid)

pub one_history : HasOneHistory
one_history = λ pid effects.
    let has = has_all [] 0 effects (λ other. ([], never_reset other [] [] (All-nil (λ (e : Numbered). resets other e.effect ≡ false)) refl)) pid in
    (has.0, has.1, λ other is. history_is pid (numbered effects) other is ∙ sym (history_is pid (numbered effects) has.0 has.1))

pub finds_one : FindsOne
finds_one = λ effects pid address. elim [
  | User ↦
      let one = one_history pid effects in
      (last_that (indexed_contains address) one.0, (one.0, one.1, refl), λ other is. is.2 ∙ ap (last_that (indexed_contains address)) (one.2 is.0 is.1))
  | Kernel ↦ (option_or (symbol_at address (numbered effects)) (last_that (indexed_contains address) (kernel_mappings (numbered effects))), refl, λ other is. is)
  | Hypervisor ↦ (None, refl, λ other is. is)
  | Guest ↦ (None, refl, λ other is. is)
  | GuestKernel ↦ (None, refl, λ other is. is)
  | GuestUser ↦ (None, refl, λ other is. is)
  | Unknown ↦ (None, refl, λ other is. is)
]
