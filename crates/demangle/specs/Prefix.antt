-- The prefixes of mangled names.
use Rattle.std.specs.Prelude.{◌≡◌, ◌≤◌, ◌⊎◌, ℕ, List, length, slice_index}

-- the name starts with `_R` or `_Z`
pub record IsMangled (symbol : List ℕ) : Type 0 where
  pub two : 2 ≤ length symbol
  pub underscore : slice_index symbol 0 ≡ 95
  pub letter : (slice_index symbol 1 ≡ 82) ⊎ (slice_index symbol 1 ≡ 90)
