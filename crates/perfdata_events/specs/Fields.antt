-- Numbers at offsets, in a byte order.
use Rattle.std.specs.Prelude.{ℕ, ℤ, List, drop}
use Rattle.std.specs.Int.{w32, cast_signed}

module _ (number : ℕ → List ℕ → ℕ) where
  abbrev pub u16_at : ℕ → List ℕ → ℕ
  u16_at at bytes = number 2 (drop at bytes)

  abbrev pub u32_at : ℕ → List ℕ → ℕ
  u32_at at bytes = number 4 (drop at bytes)

  abbrev pub u64_at : ℕ → List ℕ → ℕ
  u64_at at bytes = number 8 (drop at bytes)

  abbrev pub i32_at : ℕ → List ℕ → ℤ
  i32_at at bytes = cast_signed w32 (number 4 (drop at bytes))
