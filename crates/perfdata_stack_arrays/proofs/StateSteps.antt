-- What is mapped, and the mappings and the text that are written, after one more record.
use Rattle.std.proofs.Common.{◌≡◌, ◌∙◌, ap, refl, sym, subst, arith, ℕ, ◌+◌, ◌^◌, ◌<◌, ◌≤◌, List, [], ◌∷◌, ◌++◌, append_assoc, length, length-append, map, Option, None, Some}
use Rattle.std.specs.Prelude.{slice_get}
use Rattle.std.specs.List.{flat_map}
use Rattle.std.proofs.lemmas.List.{append-nil, length-map}
use Rattle.perfdata_arrays.specs.Overwrites.{with_entries_at}
use Rattle.perfdata_spaces.specs.AddressSpaces.{AddsMappings, Follows, mapping_at, mapping_values}
use Rattle.perfdata_spaces.specs.Effects.{Applied, SpaceEffect, Maps, MapsKernel, Registers, Removes, Copies, Clears, Leaves, added, name_effect, space_effect}
use Rattle.perfdata_spaces.specs.Mappings.{MappingValue}
use Rattle.perfdata_spaces.specs.declared.address_spaces.AddressSpaces.{AddressSpaces}
use Rattle.perfdata_arrays.proofs.Arrays.{no_entries}
use Rattle.perfdata_stack_arrays.proofs.ArrayWrites.{more_at}
use Rattle.perfdata_stack_arrays.proofs.NameSteps.{text_push}
use Rattle.perfdata_stack_arrays.specs.Arrays.{count_of, saturated}
use Rattle.perfdata_stack_arrays.specs.steps.MappingWrites.{WritesMapping, with_text}
use Rattle.perfdata_stack_arrays.specs.Mappings.{mapping_entry_of, mappings_from, mappings_in, mappings_of, name_in, path_of, text_in, text_of}
use Rattle.perfdata_stack_arrays.specs.steps.Names.{FollowsRanges}
use Rattle.perfdata_stack_arrays.specs.steps.ProcessState.{AppliesRecord, FollowsState}
use Rattle.perfdata_stack_arrays.specs.declared.mapping.StackMapping.{StackMapping}
use Rattle.perfdata_stack_arrays.specs.declared.state.ProcessState.{ProcessState}
use Rattle.perfdata_stack_arrays.specs.declared.state.TextCounts.{TextCounts}

-- ---- the mapping that a record adds

-- The only element of a list that has at most one.
abbrev pub only_of : {A : Type 0} → List A → Option A
only_of [] = None
only_of (x ∷ xs) = Some x

pub one_added : (effect : SpaceEffect) → length (added effect) ≤ 1
one_added (Maps pid mapping) = omega arith
one_added (MapsKernel mapping) = omega arith
one_added (Registers mapping) = omega arith
one_added (Removes start size) = omega arith
one_added (Copies child parent) = omega arith
one_added (Clears pid) = omega arith
one_added Leaves = omega arith

at_end : {A : Type 0} (xs : List A) (x : A) → slice_get (xs ++ x ∷ []) (length xs) ≡ Some x
at_end [] x = refl
at_end (y ∷ ys) x = at_end ys x

pub mapping_added : (mappings : List MappingValue) (old new : AddressSpaces) (index : Option ℕ) → length mappings ≤ 1 → AddsMappings mappings old index new → mapping_at new index ≡ only_of mappings
mapping_added [] old new index one adds = ap (mapping_at new) adds.index_is
mapping_added (m ∷ []) old new index one adds =
    ap (mapping_at new) adds.index_is ∙ ap (λ l. slice_get l (length (mapping_values old))) adds.after ∙ at_end (mapping_values old) m
mapping_added (m ∷ n ∷ more) old new index one adds = absurd (omega (arith, one))

-- ---- the entries of mappings

from_push : (size : ℕ) (before : List Applied) (applied : Applied) → mappings_from size (before ++ applied ∷ []) ≡ mappings_from size before ++ mappings_of (size + length (text_in before)) applied
from_push size [] applied = append-nil (mappings_of size applied) ∙ ap (λ n. mappings_of n applied) (let e : size ≡ size + 0 = omega arith in e)
from_push size (first ∷ before) applied =
    let next = size + length (text_of first) in
    let same : next + length (text_in before) ≡ size + length (text_of first ++ text_in before) = omega (arith, length-append (text_of first) (text_in before)) in
    ap (λ l. mappings_of size first ++ l) (from_push next before applied ∙ ap (λ n. mappings_from next before ++ mappings_of n applied) same)
    ∙ sym (append_assoc (mappings_of size first) (mappings_from next before) (mappings_of (size + length (text_of first ++ text_in before)) applied))

pub mappings_push : (before : List Applied) (applied : Applied) → mappings_in (before ++ applied ∷ []) ≡ mappings_in before ++ mappings_of (length (text_in before)) applied
mappings_push before applied = from_push 0 before applied ∙ ap (λ n. mappings_in before ++ mappings_of n applied) (let e : 0 + length (text_in before) ≡ length (text_in before) = omega arith in e)

-- ---- one more record

abbrev pub paths_of : List MappingValue → List ℕ
paths_of ms = flat_map (λ (m : MappingValue). m.path) ms

-- What is written for the mappings that an effect adds.
record WritesMappings (ms : List MappingValue) (counts : TextCounts) (mappings : List StackMapping) (text : List ℕ) (counts' : TextCounts) (mappings' : List StackMapping) (text' : List ℕ) : Type 0 where
  mapping_count : counts'.mappings ≡ saturated (counts.mappings + length ms)
  text_count : counts'.text ≡ saturated (counts.text + length (paths_of ms))
  mappings_written : mappings' ≡ with_entries_at counts.mappings (map (mapping_entry_of counts.text) ms) mappings
  text_written : text' ≡ with_entries_at counts.text (paths_of ms) text

writes_mappings : (ms : List MappingValue) (counts : TextCounts) (mappings : List StackMapping) (text : List ℕ) (counts' : TextCounts) (mappings' : List StackMapping) (text' : List ℕ)
    → length ms ≤ 1 → counts.mappings < 2 ^ 64 → counts.text < 2 ^ 64 → WritesMapping counts (only_of ms) mappings text counts' mappings' text' → WritesMappings ms counts mappings text counts' mappings' text'
writes_mappings [] counts mappings text counts' mappings' text' one few short (same, same_mappings, same_text) = record {
  mapping_count = ap (λ c. c.mappings) same ∙ (let e : counts.mappings ≡ saturated (counts.mappings + 0) = omega (arith, few) in e);
  text_count = ap (λ c. c.text) same ∙ (let e : counts.text ≡ saturated (counts.text + 0) = omega (arith, short) in e);
  mappings_written = same_mappings ∙ no_entries counts.mappings mappings;
  text_written = same_text ∙ no_entries counts.text text;
}
writes_mappings (m ∷ []) counts mappings text counts' mappings' text' one few short (more, mappings_more, text_more) = record {
  mapping_count = ap (λ c. c.mappings) more;
  text_count = ap (λ c. c.text) more ∙ ap (λ l. saturated (counts.text + length l)) (sym (append-nil m.path));
  mappings_written = mappings_more;
  text_written = text_more ∙ ap (λ l. with_entries_at counts.text l text) (sym (append-nil m.path));
}
writes_mappings (m ∷ n ∷ more) counts mappings text counts' mappings' text' one few short writes = absurd (omega (arith, one))

pub applies_record : (before : List Applied) (applied : Applied) (old new : ProcessState) (name : List ℕ) (middle : TextCounts) (mapping : Option MappingValue) (mappings : List StackMapping) (text text_middle : List ℕ) (mappings' : List StackMapping) (text' : List ℕ)
    → FollowsState before old → Follows (before ++ applied ∷ []) new.spaces → FollowsRanges (before ++ applied ∷ []) new.names
    → name ≡ name_in (name_effect applied) → middle ≡ with_text old.counts name → text_middle ≡ with_entries_at old.counts.text name text → length text < 2 ^ 63
    → mapping ≡ only_of (added (space_effect applied)) → WritesMapping middle mapping mappings text_middle new.counts mappings' text'
    → AppliesRecord before applied mappings text new mappings' text'
applies_record before applied old new name middle mapping mappings text text_middle mappings' text' was spaces names name_is middle_is text_middle_is short mapping_is writes =
    let ms = added (space_effect applied) in
    let own_name = name_in (name_effect applied) in
    let middle_mappings : middle.mappings ≡ count_of (mappings_in before) = ap (λ c. c.mappings) middle_is ∙ was.mappings in
    let middle_text : middle.text ≡ saturated (length (text_in before) + length own_name) =
    ap (λ c. c.text) middle_is ∙ ap (λ n. saturated (old.counts.text + length n)) name_is ∙ (let t = was.text in let e : saturated (old.counts.text + length own_name) ≡ saturated (length (text_in before) + length own_name) = omega (arith, t) in e) in
    let few : middle.mappings < 2 ^ 64 = omega (arith, middle_mappings) in
    let fits : middle.text < 2 ^ 64 = omega (arith, middle_text) in
    let all = writes_mappings ms middle mappings text_middle new.counts mappings' text' (one_added (space_effect applied)) few fits (subst (λ (o : Option MappingValue). WritesMapping middle o mappings text_middle new.counts mappings' text') mapping_is writes) in
    let index : middle.text ≡ saturated (count_of (text_in before) + length own_name) = middle_text ∙ (let e : saturated (length (text_in before) + length own_name) ≡ saturated (count_of (text_in before) + length own_name) = omega arith in e) in
    let own_middle : text_middle ≡ with_entries_at (count_of (text_in before)) own_name text = text_middle_is ∙ ap (λ n. with_entries_at n name text) was.text ∙ ap (λ l. with_entries_at (count_of (text_in before)) l text) name_is in
    record {
      follows = record {
        spaces = spaces;
        names = names;
        mappings = all.mapping_count ∙ ap (λ n. saturated (n + length ms)) middle_mappings
            ∙ (let size = length-map ms (mapping_entry_of (saturated (length (text_in before) + length own_name))) in
            let e : saturated (count_of (mappings_in before) + length ms) ≡ saturated (length (mappings_in before) + length (mappings_of (length (text_in before)) applied)) = omega (arith, size) in e)
            ∙ ap saturated (sym (length-append (mappings_in before) (mappings_of (length (text_in before)) applied))) ∙ ap count_of (sym (mappings_push before applied));
        text = all.text_count
            ∙ (let e : saturated (middle.text + length (path_of applied)) ≡ saturated (length (text_in before) + length (text_of applied)) = omega (arith, middle_text, length-append own_name (path_of applied)) in e)
            ∙ ap saturated (sym (length-append (text_in before) (text_of applied))) ∙ ap count_of (sym (text_push before applied));
      };
      mappings_written = all.mappings_written ∙ ap (λ n. with_entries_at n (map (mapping_entry_of middle.text) ms) mappings) middle_mappings
          ∙ ap (λ n. with_entries_at (count_of (mappings_in before)) (map (mapping_entry_of n) ms) mappings) middle_text;
      text_written = all.text_written ∙ ap (with_entries_at middle.text (path_of applied)) own_middle ∙ more_at (count_of (text_in before)) middle.text own_name (path_of applied) text index short;
    }
