-- Steps of private functions: where the names of threads are in the text.
use Rattle.std.specs.Prelude.{◌≡◌, ℕ, ℤ, ◌<◌, ◌^◌, List, length, Option, Some, Result, Ok, Err, if◌then◌else◌}
use Rattle.std.specs.declared.alloc.AllocError.{AllocError}
use Rattle.std.specs.Ordering.{int_cmp}
use Rattle.std.specs.BTreeMap.{get}
use Rattle.perfdata_spaces.specs.Effects.{Applied, NameEffect, Names, Inherits, KeepsAll}
use Rattle.perfdata_spaces.specs.Processes.{is_same}
use Rattle.perfdata_stack_arrays.specs.Mappings.{text_in}
use Rattle.perfdata_stack_arrays.specs.declared.names.NameRanges.{NameRanges}
use Rattle.perfdata_stack_arrays.specs.declared.names.TextRange.{TextRange}
use Rattle.perfdata_stack_arrays.specs.Names.{IsNameAt}

-- Where the name of a thread is.
abbrev pub range_of : NameRanges → ℤ → Option TextRange
range_of names tid = get int_cmp names.ranges tid

abbrev pub range_at : ℕ → List ℕ → TextRange
range_at offset bytes = record { offset = offset; size = length bytes }

-- All threads keep where their names are.
abbrev pub KeepsRanges : NameRanges → NameRanges → Type 0
KeepsRanges old new = (tid : ℤ) → range_of new tid ≡ range_of old tid

-- Where the name of a thread is after an effect whose name is at an offset. `range` says where it is before.
abbrev pub range_after : NameEffect → ℕ → (ℤ → Option TextRange) → ℤ → Option TextRange
range_after (Names thread bytes) offset range tid = if is_same thread tid then Some (range_at offset bytes) else range tid
range_after (Inherits thread parent) offset range tid = if is_same thread tid then range parent else range tid
range_after KeepsAll offset range tid = range tid

abbrev pub ChangesRanges : NameEffect → ℕ → NameRanges → Result (Unit {0}) AllocError → NameRanges → Type 0
ChangesRanges effect offset old (Ok done) new = (tid : ℤ) → range_of new tid ≡ range_after effect offset (range_of old) tid
ChangesRanges effect offset old (Err error) new = KeepsRanges old new

-- The names of all threads after records. Offsets are those of a text of less than 2^64 bytes.
abbrev pub FollowsRanges : List Applied → NameRanges → Type 0
FollowsRanges before names = length (text_in before) < 2 ^ 64 → (tid : ℤ) → IsNameAt before tid (range_of names tid)
