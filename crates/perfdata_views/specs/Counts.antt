-- The sum of the weights of each line.
use Rattle.std.specs.Prelude.{◌≡◌, ◌⊎◌, ℕ, ◌+◌, ◌<◌, ◌≤◌, ◌^◌, Bool, false, List, [], ◌∷◌, Option, None, Some, Result, Ok, Err, Vec, filter, length, map, slice_get}
use Rattle.std.specs.declared.alloc.Global.{Global}
use Rattle.std.specs.List.{sum_by}
use Rattle.std.specs.Option.{unwrap_or}
use Rattle.std.specs.Ordering.{is_eq, nat_cmp}
use Rattle.std.specs.declared.cmp.Ordering.{Ordering}
use Rattle.std.specs.Cmp.Lexicographic.{slice_cmp}
use Rattle.std.specs.Map.{values_of}
use Rattle.std.specs.BTreeMap.{get_by, IsOrdered}
use Rattle.perfdata_views.specs.declared.counts.LineCounts.{LineCounts}
use Rattle.perfdata_views.specs.declared.counts.LineCountError.{LineCountError}
use Rattle.perfdata_views.specs.declared.counts.LineCountError.TheVariants.{Overflow, Memory}

-- The order of lines: by their bytes.
abbrev pub line_cmp : Vec ℕ Global → Vec ℕ Global → Ordering
line_cmp first second = slice_cmp nat_cmp first.items second.items

-- Whether two lines are the same.
abbrev pub is_line : List ℕ → List ℕ → Bool
is_line line other = is_eq (slice_cmp nat_cmp line other)

-- The lines with their counts, in the order of the iterator.
abbrev pub counted_lines : LineCounts → List (Vec ℕ Global × ℕ)
counted_lines counts = counts.counts.entries

-- The lines ascend by bytes, and each is there once.
abbrev pub IsAscending : LineCounts → Type 0
IsAscending counts = IsOrdered line_cmp counts.counts

-- The count of a line, if it is counted.
abbrev pub count_of : LineCounts → List ℕ → Option ℕ
count_of counts line = get_by (λ (counted : Vec ℕ Global). slice_cmp nat_cmp line counted.items) counts.counts

-- The sum of all counts.
abbrev pub sum_of_counts : LineCounts → ℕ
sum_of_counts counts = sum_by (λ count. count) (values_of counts.counts.entries)

-- The weight is added to the count of a line, and to no other.
pub record CountsLine (old : LineCounts) (line : List ℕ) (weight : ℕ) (new : LineCounts) : Type 0 where
  pub counted : count_of new line ≡ Some (unwrap_or (count_of old line) 0 + weight)
  pub others : (other : List ℕ) → is_line line other ≡ false → count_of new other ≡ count_of old other
  pub sum : sum_of_counts new ≡ sum_of_counts old + weight

-- Why a weight isn't added. No memory is needed for an empty line that is counted already.
abbrev pub IsCause : LineCounts → List ℕ → ℕ → LineCountError → Type 0
IsCause old line weight Overflow = 2 ^ 64 ≤ sum_of_counts old + weight
IsCause old line weight Memory = (0 < length line) ⊎ (count_of old line ≡ None)

abbrev pub AddsToLine : LineCounts → List ℕ → ℕ → Result (Unit {0}) LineCountError → LineCounts → Type 0
AddsToLine old line weight (Ok done) new = CountsLine old line weight new
AddsToLine old line weight (Err error) new = (counted_lines new ≡ counted_lines old) × IsCause old line weight error

-- A line with its weight, as it was added.
pub record Added : Type 0 where
  pub line : List ℕ
  pub weight : ℕ

-- The sum of weights, or `None` if there are none.
abbrev pub sum_of : List ℕ → Option ℕ
sum_of [] = None
sum_of (weight ∷ weights) = Some (sum_by (λ w. w) (weight ∷ weights))

-- The weights with which a line was added.
abbrev pub weights_of : List ℕ → List Added → List ℕ
weights_of line added = map (λ a. a.weight) (filter (λ a. is_line line a.line) added)

-- Each line has the sum of its weights as its count, and the sum of all counts is that of all weights.
pub record Counts (added : List Added) (counts : LineCounts) : Type 0 where
  pub lines : (line : List ℕ) → count_of counts line ≡ sum_of (weights_of line added)
  pub sum : sum_of_counts counts ≡ sum_by (λ a. a.weight) added

-- The entries are the lines that were added, each with the sum of its weights.
pub record ListsLines (added : List Added) (entries : List (Vec ℕ Global × ℕ)) : Type 0 where
  pub each : (index : ℕ) (line : Vec ℕ Global) (count : ℕ) → slice_get entries index ≡ Some (line, count)
      → sum_of (weights_of line.items added) ≡ Some count
  pub all : (line : List ℕ) (count : ℕ) → sum_of (weights_of line added) ≡ Some count
      → ((index : ℕ) × (counted : Vec ℕ Global) × (slice_get entries index ≡ Some (counted, count)) × (counted.items ≡ line))
