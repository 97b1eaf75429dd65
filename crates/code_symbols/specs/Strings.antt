-- String tables of ELF files.
use Rattle.std.specs.Prelude.{◌≡◌, ◌≢◌, ℕ, ◌<◌, ◌≤◌, ◌==◌, List, All, drop, slice_index, slice_range}
use Rattle.std.specs.List.{before_first}
use Rattle.std.specs.List.Sorted.{IsNonDecreasingBy}

-- these are the indices of the NULs before an index, ascending
pub record AreNuls (bytes nuls : List ℕ) (at : ℕ) : Type 0 where
  pub ascends : IsNonDecreasingBy (λ n. n) nuls
  pub before : All (λ n. n < at) nuls
  pub each : All (λ n. slice_index bytes n ≡ 0) nuls
  pub every : (i : ℕ) → i < at → slice_index bytes i ≡ 0 → ¬ All (λ n. n ≢ i) nuls

-- the string that starts at an offset of a string table: the bytes before the next NUL, or all if there is none
abbrev pub string_in : List ℕ → ℕ → List ℕ
string_in bytes start = before_first (λ b. b == 0) (drop start bytes)

-- the string that starts at an offset ends here: at the first NUL, or where the bytes end
pub record IsStringEnd (bytes : List ℕ) (start end : ℕ) : Type 0 where
  pub ascends : start ≤ end
  pub one : (k : ℕ) → start ≤ k → k < end → slice_index bytes k ≢ 0
  pub ends : slice_index bytes end ≡ 0

-- the string that starts at an offset of a string table, which is empty if the offset isn't in the table
pub record IsStringAt (bytes : List ℕ) (start : ℕ) (s : List ℕ) : Type 0 where
  pub end : ℕ
  pub is_end : IsStringEnd bytes start end
  pub is : s ≡ slice_range bytes start end
