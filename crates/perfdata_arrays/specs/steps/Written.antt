-- Bytes that are written one after another into an array, up to its capacity.
use Rattle.std.specs.Prelude.{◌≡◌, ℕ, ◌+◌, ◌<◌, ◌≤◌, List, length}
use Rattle.perfdata_arrays.specs.Overwrites.{with_entries_at}

-- Bytes were written after the first `size` ones, which are `size'` ones then, unless they are 2^64 - 1 or more.
pub record WritesMore (size : ℕ) (old : List ℕ) (size' : ℕ) (new : List ℕ) : Type 0 where
  pub grows : size ≤ size'
  pub written : size' < 18446744073709551615 → (bytes : List ℕ) × ((size' ≡ size + length bytes) × (new ≡ with_entries_at size bytes old))
