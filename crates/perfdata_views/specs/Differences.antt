-- The folded lines of two profiles, side by side.
use Rattle.std.specs.Prelude.{◌≡◌, ◌⊎◌, ℕ, zero, suc, ◌*◌, ◌/◌, ◌-◌, ◌^◌, nat_lt, List, [], ◌∷◌, ◌++◌, Some, if◌then◌else◌, slice_get, Vec}
use Rattle.std.specs.declared.alloc.Global.{Global}
use Rattle.std.specs.Fmt.{decimal}
use Rattle.std.specs.List.{flat_map}
use Rattle.std.specs.List.Sorted.{IsStrictlySortedBy}
use Rattle.perfdata_profile.specs.declared.profile.Profile.{Profile}
use Rattle.perfdata_views.specs.Counts.{is_line, line_cmp}
use Rattle.perfdata_views.specs.Entries.{Entry, entries_in, total_weight, weight_where}
use Rattle.perfdata_views.specs.Lines.{line_of}
use Rattle.perfdata_views.specs.declared.differences.CountPair.{CountPair}
use Rattle.perfdata_views.specs.declared.differences.OldCounts.{OldCounts}
use Rattle.perfdata_views.specs.declared.differences.OldCounts.TheVariants.{Recorded, Scaled}

-- The number of a line: the sum of the weights of its entries, or 0 if there are none.
abbrev pub number_in : List Entry → List ℕ → ℕ
number_in entries line = weight_where (λ (entry : Entry). is_line line (line_of entry.0)) entries

-- The sums of the weights of all samples of two profiles.
abbrev pub totals_of : Profile → Profile → CountPair
totals_of old new = record { old = total_weight old; new = total_weight new }

-- A part of a total, where that total is scaled to another one, rounded down and at most 2^64 - 1.
abbrev pub scaled : ℕ → ℕ → ℕ → ℕ
scaled zero new count = count
scaled (suc old) new count = if nat_lt (count * new / suc old) (2 ^ 64) then count * new / suc old else 2 ^ 64 - 1

-- What is written of a count in an old profile.
abbrev pub written_count : OldCounts → CountPair → ℕ → ℕ
written_count Recorded totals count = count
written_count Scaled totals count = scaled totals.old totals.new count

-- A line with two counts, each after a blank, and the end of the line.
abbrev pub line_text : List ℕ → ℕ → ℕ → List ℕ
line_text line old new = line ++ (32 ∷ decimal old ++ (32 ∷ decimal new ++ 10 ∷ []))

-- A line is that of an entry.
abbrev pub HasLine : List Entry → List ℕ → Type 0
HasLine entries line = (at : ℕ) × (entry : Entry) × (slice_get entries at ≡ Some entry) × (line ≡ line_of entry.0)

-- The lines of two profiles.
pub record AreLinesOfBoth (old new : List Entry) (lines : List (Vec ℕ Global)) : Type 0 where
  -- Each line of either profile is there.
  pub all : (line : List ℕ) → HasLine old line ⊎ HasLine new line
      → ((at : ℕ) × (own : Vec ℕ Global) × (slice_get lines at ≡ Some own) × (own.items ≡ line))
  -- Nothing else is there.
  pub only : (at : ℕ) (line : Vec ℕ Global) → slice_get lines at ≡ Some line → HasLine old line.items ⊎ HasLine new line.items
  -- The lines ascend by their bytes, so each is there once.
  pub ascend : IsStrictlySortedBy line_cmp lines

-- A text has each line of two profiles once, in order, with its number in the old one, as that is written, and its number in the new one.
pub record IsTextOfColumns (old new : List Entry) (written : ℕ → ℕ) (text : List ℕ) : Type 0 where
  pub lines : List (Vec ℕ Global)
  pub are : AreLinesOfBoth old new lines
  pub is : text ≡ flat_map (λ (line : Vec ℕ Global). line_text line.items (written (number_in old line.items)) (number_in new line.items)) lines

-- The same of the entries of two profiles.
abbrev pub IsPairedText : Profile → Profile → OldCounts → List ℕ → Type 0
IsPairedText old new counts text = IsTextOfColumns (entries_in old) (entries_in new) (written_count counts (totals_of old new)) text
