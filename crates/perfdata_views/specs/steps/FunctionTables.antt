-- Steps of private functions: the functions of a profile with the weights of their samples.
use Rattle.std.specs.Prelude.{◌≡◌, ℕ, ◌+◌, ◌-◌, ◌^◌, ◌==◌, ◌<◌, ◌≤◌, min, not, Bool, List, [], ◌∷◌, ◌++◌, if◌then◌else◌, length, slice_index_or, take}
use Rattle.std.specs.List.{list_any}
use Rattle.perfdata_views.specs.Entries.{Entry, weight_where}
use Rattle.perfdata_views.specs.declared.table.FunctionRow.{FunctionRow}
use Rattle.perfdata_views.specs.declared.table.Tally.{Tally}
use Rattle.perfdata_views.specs.FunctionTables.{is_leaf, occurs}

abbrev pub no_tally : Tally
no_tally = record { own = 0; total = 0; last = 0 }

-- The tally of a function that occurs in the entry that is counted, unless that was seen before.
abbrev pub seen : (count weight : ℕ) → Tally → Tally
seen count weight tally = if tally.last == count then tally
    else record { own = tally.own; total = min (tally.total + weight) (2 ^ 64 - 1); last = count }

-- The tally of the function of a leaf.
abbrev pub with_own : ℕ → Tally → Tally
with_own weight tally = record { own = min (tally.own + weight) (2 ^ 64 - 1); total = tally.total; last = tally.last }

-- The tally of a function after an entry.
abbrev pub tally_after : (count weight : ℕ) (is_leaf occurs : Bool) → Tally → Tally
tally_after count weight is_leaf occurs tally =
    if is_leaf then with_own weight (if occurs then seen count weight tally else tally) else (if occurs then seen count weight tally else tally)

-- The functions with these numbers were seen in the entry that is counted.
pub record Sees (old : List Tally) (numbers : List ℕ) (count weight : ℕ) (new : List Tally) : Type 0 where
  pub count_is : length new ≡ length old
  pub each : (number : ℕ) → number < length old → slice_index_or new number no_tally
      ≡ (if list_any (λ m. m == number) numbers then seen count weight (slice_index_or old number no_tally) else slice_index_or old number no_tally)

-- An entry was counted: its functions have these numbers, the leaf's first.
pub record CountsEntry (old : List Tally) (numbers : List ℕ) (count weight : ℕ) (new : List Tally) : Type 0 where
  pub count_is : length new ≡ length old
  pub each : (number : ℕ) → number < length old → slice_index_or new number no_tally
      ≡ tally_after count weight (list_any (λ m. m == number) (take 1 numbers)) (list_any (λ m. m == number) numbers) (slice_index_or old number no_tally)

-- A tally is that of a function in the first entries.
pub record IsTallyOf (name : List ℕ) (entries : List Entry) (tally : Tally) : Type 0 where
  pub own : tally.own ≡ weight_where (is_leaf name) entries
  pub total : tally.total ≡ weight_where (occurs name) entries
  pub last : tally.last ≤ length entries
  pub is_used : (tally.last == 0) ≡ not (list_any (occurs name) entries)

-- The tallies are those of the names.
pub record AreTallies (names : List (List ℕ)) (entries : List Entry) (tallies : List Tally) : Type 0 where
  pub count_is : length tallies ≡ length names
  pub each : (number : ℕ) → number < length names → IsTallyOf (slice_index_or names number []) entries (slice_index_or tallies number no_tally)

abbrev pub row_of : ℕ → Tally → FunctionRow
row_of number tally = record { name = record { 0 = number }; own = tally.own; total = tally.total }

-- The row of a function, if it occurs.
abbrev pub used_row : ℕ → Tally → List FunctionRow
used_row number tally = if tally.last == 0 then [] else row_of number tally ∷ []

-- The rows of tallies. The number of the first one is `number`.
abbrev pub rows_of : ℕ → List Tally → List FunctionRow
rows_of number [] = []
rows_of number (tally ∷ tallies) = used_row number tally ++ rows_of (number + 1) tallies
