-- The CRC-32 of zlib. A number stands for a polynomial whose coefficients are its bits, the lowest bit for the highest power.
use Rattle.std.specs.Prelude.{◌≡◌, ℕ, zero, suc, ◌-◌, ◌/◌, ◌%◌, ◌^◌, ◌==◌, List, [], ◌∷◌, bit_xor, if◌then◌else◌}
use Rattle.code_symbols.specs.declared.crc.Crc32.{Crc32}

-- the remainder of a division by the polynomial, 0xedb88320 and the power above it, after one bit more
abbrev pub crc_bit : ℕ → ℕ
crc_bit c = bit_xor (c / 2) (if c % 2 == 1 then 0xedb88320 else 0)

-- the remainder after some bits more
abbrev pub crc_bits : ℕ → ℕ → ℕ
crc_bits zero c = c
crc_bits (suc n) c = crc_bits n (crc_bit c)

-- the remainder after bytes, where it is `c` before them
abbrev pub crc_after : ℕ → List ℕ → ℕ
crc_after c [] = c
crc_after c (b ∷ bs) = crc_after (crc_bits 8 (bit_xor c b)) bs

-- the CRC-32 of bytes: the remainder that starts with ones, inverted
abbrev pub crc_32 : List ℕ → ℕ
crc_32 bytes = 2 ^ 32 - 1 - crc_after (2 ^ 32 - 1) bytes

-- these bytes were added
abbrev pub IsCrcOf : Crc32 → List ℕ → Type 0
IsCrcOf crc bytes = crc.state ≡ crc_after (2 ^ 32 - 1) bytes
