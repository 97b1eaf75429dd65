-- Numbers at the start of some bytes: of a fixed size, and LEB128 (DWARF 5, section 7.6).
use Rattle.std.specs.Prelude.{◌≡◌, ◌⊎◌, All, ℕ, ◌+◌, ◌-◌, ◌*◌, ◌%◌, ◌<◌, ◌≤◌, List, [], ◌∷◌, length, take, drop, slice_index}
use Rattle.std.specs.Prelude.{ℤ, pos, ◌+ℤ◌, ◌-ℤ◌, ◌*ℤ◌, if◌then◌else◌, nat_lt, ◌^◌, FitsSigned}
use Rattle.std.specs.Int.{w64}

-- the number that the bytes are, the lowest first
abbrev pub fixed_value : List ℕ → ℕ
fixed_value [] = 0
fixed_value (b ∷ bs) = b + 256 * fixed_value bs

-- the number that the bytes encode: seven bits in each, the lowest first
abbrev pub uleb128_value : List ℕ → ℕ
uleb128_value [] = 0
uleb128_value (b ∷ bs) = b % 128 + 128 * uleb128_value bs

-- the same with a sign, which is the highest of the seven bits of the last byte
abbrev pub sleb128_value : List ℕ → ℤ
sleb128_value [] = pos 0
sleb128_value (b ∷ []) = (if nat_lt (b % 128) 64 then pos (b % 128) else pos (b % 128) -ℤ pos 128)
sleb128_value (b ∷ c ∷ bs) = pos (b % 128) +ℤ (pos 128 *ℤ sleb128_value (c ∷ bs))

-- the first bytes, this many of them, are a number
pub record FixedAt (size : ℕ) (bytes : List ℕ) (n : ℕ) (rest : List ℕ) : Type 0 where
  pub within : size ≤ length bytes
  pub value : n ≡ fixed_value (take size bytes)
  pub after : rest ≡ drop size bytes

-- a LEB128 number has this many bytes: each but the last is at least 128, and there are at most 10
pub record IsLeb128 (size : ℕ) (bytes : List ℕ) : Type 0 where
  pub some : 0 < size
  pub most : size ≤ 10
  pub within : size ≤ length bytes
  pub continues : (k : ℕ) → k + 1 < size → 128 ≤ slice_index bytes k
  pub ends : slice_index bytes (size - 1) < 128

-- the bytes start with an unsigned LEB128 number, which fits 64 bits
pub record Uleb128At (bytes : List ℕ) (n : ℕ) (rest : List ℕ) : Type 0 where
  pub size : ℕ
  pub encoded : IsLeb128 size bytes
  pub fits : n < 2 ^ 64
  pub value : n ≡ uleb128_value (take size bytes)
  pub after : rest ≡ drop size bytes

-- the bytes start with a signed LEB128 number, which fits 64 bits
pub record Sleb128At (bytes : List ℕ) (n : ℤ) (rest : List ℕ) : Type 0 where
  pub size : ℕ
  pub encoded : IsLeb128 size bytes
  pub fits : FitsSigned w64 n
  pub value : n ≡ sleb128_value (take size bytes)
  pub after : rest ≡ drop size bytes

abbrev pub NoUleb128 : List ℕ → Type 0
NoUleb128 bytes = (n : ℕ) (rest : List ℕ) → Uleb128At bytes n rest → ⊥

abbrev pub NoSleb128 : List ℕ → Type 0
NoSleb128 bytes = (n : ℤ) (rest : List ℕ) → Sleb128At bytes n rest → ⊥

-- the bytes end in a LEB128 number: each of them, at most 10, is at least 128
abbrev pub EndsInLeb128 : List ℕ → Type 0
EndsInLeb128 bytes = (length bytes ≤ 10) × All (λ b. 128 ≤ b) bytes

-- they start with one of more than 10 bytes
abbrev pub IsLongLeb128 : List ℕ → Type 0
IsLongLeb128 bytes = (10 < length bytes) × ((k : ℕ) → k < 10 → 128 ≤ slice_index bytes k)

-- they start with one that has more than 10 bytes or doesn't fit 64 bits
abbrev pub IsLargeUleb128 : List ℕ → Type 0
IsLargeUleb128 bytes = IsLongLeb128 bytes ⊎ ((size : ℕ) × IsLeb128 size bytes × (2 ^ 64 ≤ uleb128_value (take size bytes)))

abbrev pub IsLargeSleb128 : List ℕ → Type 0
IsLargeSleb128 bytes = IsLongLeb128 bytes ⊎ ((size : ℕ) × IsLeb128 size bytes × (FitsSigned w64 (sleb128_value (take size bytes)) → ⊥))

-- the bytes start with an unsigned LEB128 number and a block of that number of bytes
pub record BlockAt (bytes block rest : List ℕ) : Type 0 where
  pub size : ℕ
  pub mid : List ℕ
  pub number : Uleb128At bytes size mid
  pub within : size ≤ length mid
  pub block_is : block ≡ take size mid
  pub after : rest ≡ drop size mid
