-- Numbers of a fixed size in either byte order, initial lengths and strings (DWARF 5, sections 7.4 to 7.6).
use Rattle.std.specs.Prelude.{◌≡◌, ◌≢◌, ℕ, ◌-◌, ◌^◌, ◌<◌, ◌≤◌, List, ◌∷◌, ◌++◌, length, take, drop, reverse, Bool, true, false, All}
use Rattle.code_cfi.specs.Numbers.{fixed_value, Uleb128At}
use Rattle.code_dwarf.specs.declared.fixed.Endianness.{Endianness}
use Rattle.code_dwarf.specs.declared.fixed.Endianness.TheVariants as endians

-- the number that the bytes are
abbrev pub number_of : Endianness → List ℕ → ℕ
number_of endians.Little bytes = fixed_value bytes
number_of endians.Big bytes = fixed_value (reverse bytes)

-- the first bytes, this many of them, are a number
pub record NumberAt (endian : Endianness) (size : ℕ) (bytes : List ℕ) (n : ℕ) (rest : List ℕ) : Type 0 where
  pub within : size ≤ length bytes
  pub value : n ≡ number_of endian (take size bytes)
  pub after : rest ≡ drop size bytes

-- an offset has 8 bytes in the 64-bit format, and 4 in the other one
abbrev pub OffsetAt : Endianness → Bool → List ℕ → ℕ → List ℕ → Type 0
OffsetAt endian true bytes n rest = NumberAt endian 8 bytes n rest
OffsetAt endian false bytes n rest = NumberAt endian 4 bytes n rest

-- the bytes start with an initial length: 4 bytes, or 4 bytes that are all ones and 8 more; the fifteen numbers below those are reserved
abbrev pub LengthAt : Endianness → Bool → List ℕ → ℕ → List ℕ → Type 0
LengthAt endian false bytes n rest = NumberAt endian 4 bytes n rest × (n < 2 ^ 32 - 16)
LengthAt endian true bytes n rest = (mid : List ℕ) × NumberAt endian 4 bytes (2 ^ 32 - 1) mid × NumberAt endian 8 mid n rest

-- the bytes start with this many bytes, which the rest follows
pub record SplitAt (size : ℕ) (bytes block rest : List ℕ) : Type 0 where
  pub within : size ≤ length bytes
  pub block_is : block ≡ take size bytes
  pub after : rest ≡ drop size bytes

-- the rest follows this many bytes
pub record SkippedAt (size : ℕ) (bytes rest : List ℕ) : Type 0 where
  pub within : size ≤ length bytes
  pub after : rest ≡ drop size bytes

-- the rest follows a block, whose size is a number of this many bytes or an unsigned LEB128 number
pub record BlockAfter (endian : Endianness) (digits : ℕ) (bytes rest : List ℕ) : Type 0 where
  pub size : ℕ
  pub mid : List ℕ
  pub size_at : NumberAt endian digits bytes size mid
  pub block_at : SkippedAt size mid rest

pub record LongBlockAt (bytes rest : List ℕ) : Type 0 where
  pub size : ℕ
  pub mid : List ℕ
  pub size_at : Uleb128At bytes size mid
  pub block_at : SkippedAt size mid rest

-- the bytes start with a string and the zero byte that ends it
pub record StringAt (bytes string rest : List ℕ) : Type 0 where
  pub split : bytes ≡ string ++ 0 ∷ rest
  pub not_zero : All (λ b. b ≢ 0) string

-- the bytes start with no initial length
abbrev pub NoLength : Endianness → List ℕ → Type 0
NoLength endian bytes = (is_64 : Bool) (n : ℕ) (rest : List ℕ) → LengthAt endian is_64 bytes n rest → ⊥
