-- Encoded pointers (Linux Standard Base, DWARF exception header encoding).
use Rattle.std.specs.Prelude.{◌≡◌, ℕ, ◌+◌, ◌-◌, ◌/◌, ◌%◌, ◌^◌, ◌≤◌, ◌==◌, List, ℤ, if◌then◌else◌, nat_lt}
use Rattle.std.specs.Int.{cast_unsigned, w64}
use Rattle.code_cfi.specs.Numbers.{FixedAt, Uleb128At, Sleb128At}
use Rattle.code_cfi.specs.declared.pointers.Format.{Format}
use Rattle.code_cfi.specs.declared.pointers.Format.TheVariants as formats

-- the low half of the encoding
abbrev pub format_code : Format → ℕ
format_code formats.Absolute = 0
format_code formats.Uleb128 = 1
format_code formats.Unsigned2 = 2
format_code formats.Unsigned4 = 3
format_code formats.Unsigned8 = 4
format_code formats.Sleb128 = 9
format_code formats.Signed2 = 10
format_code formats.Signed4 = 11
format_code formats.Signed8 = 12

-- the 64 bits of a number whose sign is its highest bit, which has the value `sign`
abbrev pub sign_extended : ℕ → ℕ → ℕ
sign_extended sign n = (if nat_lt n sign then n else (n + (2 ^ 64 - (sign + sign))) % 2 ^ 64)

-- the bytes start with a number of this size, with a sign in the bit of this value; n has its 64 bits
pub record SignedAt (size sign : ℕ) (bytes : List ℕ) (n : ℕ) (rest : List ℕ) : Type 0 where
  pub unsigned : ℕ
  pub number : FixedAt size bytes unsigned rest
  pub value : n ≡ sign_extended sign unsigned

-- the bytes start with a signed LEB128 number; n has its 64 bits
pub record Sleb128BitsAt (bytes : List ℕ) (n : ℕ) (rest : List ℕ) : Type 0 where
  pub signed : ℤ
  pub number : Sleb128At bytes signed rest
  pub value : n ≡ cast_unsigned w64 signed

-- the bytes start with a number in the format; n has its 64 bits
abbrev pub FormatAt : Format → List ℕ → ℕ → List ℕ → Type 0
FormatAt formats.Absolute bytes n rest = FixedAt 8 bytes n rest
FormatAt formats.Uleb128 bytes n rest = Uleb128At bytes n rest
FormatAt formats.Unsigned2 bytes n rest = FixedAt 2 bytes n rest
FormatAt formats.Unsigned4 bytes n rest = FixedAt 4 bytes n rest
FormatAt formats.Unsigned8 bytes n rest = FixedAt 8 bytes n rest
FormatAt formats.Sleb128 bytes n rest = Sleb128BitsAt bytes n rest
FormatAt formats.Signed2 bytes n rest = SignedAt 2 32768 bytes n rest
FormatAt formats.Signed4 bytes n rest = SignedAt 4 2147483648 bytes n rest
FormatAt formats.Signed8 bytes n rest = FixedAt 8 bytes n rest

-- the bytes start with a number in the format of the encoding
pub record EncodedAt (encoding : ℕ) (bytes : List ℕ) (n : ℕ) (rest : List ℕ) : Type 0 where
  pub format : Format
  pub code : format_code format ≡ encoding % 16
  pub number : FormatAt format bytes n rest

-- the bytes, which are at `address`, start with an encoded address: the high half of the encoding is 0 for the number itself,
-- and 1 for its sum with the address that it is at
pub record PointerAt (encoding address : ℕ) (bytes : List ℕ) (n : ℕ) (rest : List ℕ) : Type 0 where
  pub stored : ℕ
  pub number : EncodedAt encoding bytes stored rest
  pub known : encoding / 16 ≤ 1
  pub value : n ≡ (if encoding / 16 == 0 then stored else (stored + address) % 2 ^ 64)
