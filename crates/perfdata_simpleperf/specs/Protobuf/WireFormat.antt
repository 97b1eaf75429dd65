-- Numbers, keys and values on the wire: the first one in some bytes, or its first error.
use Rattle.std.specs.Prelude.{◌≡◌, ℕ, ◌+◌, ◌*◌, ◌%◌, ◌^◌, ◌<◌, ◌≤◌, ◌⊎◌, List, [], ◌∷◌, ◌++◌, length}
use Rattle.std.specs.List.{AllByRecursion}
use Rattle.perfdata_sections.specs.declared.decode_error.DecodeError.{DecodeError}
use Rattle.perfdata_sections.specs.declared.decode_error.DecodeError.TheVariants as errors
use Rattle.perfdata_simpleperf.specs.declared.protobuf.wire.WireType.{WireType}
use Rattle.perfdata_simpleperf.specs.declared.protobuf.wire.WireType.TheVariants as wires
use Rattle.perfdata_simpleperf.specs.declared.protobuf.wire.Value.{Value}
use Rattle.perfdata_simpleperf.specs.declared.protobuf.wire.Value.TheVariants as values

abbrev pub IsByte : ℕ → Type 0
IsByte b = b < 256

-- The bytes encode a number: seven bits in each, the lowest first, and 128 added to each but the last. A number has several
-- encodings, since the last bytes can encode bits that are all 0.
abbrev pub IsVarint : List ℕ → ℕ → Type 0
IsVarint [] n = ⊥
IsVarint (b ∷ []) n = (b < 128) × (n ≡ b)
IsVarint (b ∷ c ∷ bs) n = (128 ≤ b) × (high : ℕ) × (n + 128 ≡ b + 128 * high) × IsVarint (c ∷ bs) high

-- the bytes begin with an encoding, of at most `most` bytes, of a number below `limit`, and `rest` follows
pub record VarintAt (most limit : ℕ) (bytes : List ℕ) (n : ℕ) (rest : List ℕ) : Type 0 where
  pub encoding : List ℕ
  pub encodes : IsVarint encoding n
  pub max_len : length encoding ≤ most
  pub in_range : n < limit
  pub split : bytes ≡ encoding ++ rest

abbrev pub Continues : ℕ → Type 0
Continues b = 128 ≤ b

-- the bytes end inside a number
pub record TruncatedVarint (most : ℕ) (bytes : List ℕ) : Type 0 where
  pub all_continue : AllByRecursion Continues bytes
  pub too_few : length bytes < most

-- the byte at index `most - 1` is above 1, and the number doesn't end before it
pub record OverlongVarint (most : ℕ) (bytes : List ℕ) : Type 0 where
  pub prefix : List ℕ
  pub last : ℕ
  pub rest : List ℕ
  pub all_continue : AllByRecursion Continues prefix
  pub at_limit : length prefix + 1 ≡ most
  pub exceeds_one : 1 < last
  pub split : bytes ≡ prefix ++ last ∷ rest

abbrev pub VarintError : ℕ → List ℕ → DecodeError → Type 0
VarintError most bytes errors.Truncated = TruncatedVarint most bytes
VarintError most bytes errors.Varint = OverlongVarint most bytes
VarintError most bytes _ = ⊥

abbrev pub NumberAt : List ℕ → ℕ → List ℕ → Type 0
NumberAt bytes n rest = VarintAt 10 (2 ^ 64) bytes n rest

abbrev pub NumberError : List ℕ → DecodeError → Type 0
NumberError bytes e = VarintError 10 bytes e

-- ---- keys

abbrev pub wire_code : WireType → ℕ
wire_code wires.Varint = 0
wire_code wires.Fixed64 = 1
wire_code wires.LengthDelimited = 2
wire_code wires.StartGroup = 3
wire_code wires.EndGroup = 4
wire_code wires.Fixed32 = 5

pub record KeyAt (bytes : List ℕ) (number : ℕ) (wire : WireType) (rest : List ℕ) : Type 0 where
  pub reads : NumberAt bytes (number * 8 + wire_code wire) rest
  pub positive : 0 < number
  pub in_range : number * 8 + wire_code wire < 2 ^ 32

-- a number with an error as a key. From left to right, the errors are: the number is too high, the wire type is 6 or 7, the
-- field number is 0.
pub record KeyCodeError (bytes : List ℕ) (Invalid : ℕ → Type 0) : Type 0 where
  pub code : ℕ
  pub rest : List ℕ
  pub reads : NumberAt bytes code rest
  pub error : Invalid code

abbrev pub IsBadKey : ℕ → Type 0
IsBadKey code = (2 ^ 32 ≤ code) ⊎ (code < 6)

abbrev pub IsBadWireType : ℕ → Type 0
IsBadWireType code = (code < 2 ^ 32) × (6 ≤ code % 8)

abbrev pub KeyError : List ℕ → DecodeError → Type 0
KeyError bytes errors.Truncated = TruncatedVarint 10 bytes
KeyError bytes errors.Varint = OverlongVarint 10 bytes
KeyError bytes errors.Key = KeyCodeError bytes IsBadKey
KeyError bytes errors.WireType = KeyCodeError bytes IsBadWireType
KeyError bytes _ = ⊥

-- ---- values

-- the contents of a field, apart from their location in memory
pub data Contents : Type 0 where
  number : ℕ → Contents
  bytes : List ℕ → Contents
  skipped : Contents

-- the bytes are `prefix`, which has this length, followed by `rest`
pub record Splits (bytes : List ℕ) (len : ℕ) (prefix rest : List ℕ) : Type 0 where
  pub exact_len : length prefix ≡ len
  pub split : bytes ≡ prefix ++ rest

pub record LengthAt (bytes prefix rest : List ℕ) : Type 0 where
  pub len : ℕ
  pub mid : List ℕ
  pub reads : NumberAt bytes len mid
  pub splits : Splits mid len prefix rest

pub record FixedAt (bytes : List ℕ) (len : ℕ) (rest : List ℕ) : Type 0 where
  pub prefix : List ℕ
  pub splits : Splits bytes len prefix rest

abbrev pub ValueAt : WireType → List ℕ → Contents → List ℕ → Type 0
ValueAt wires.Varint bs (number n) rest = NumberAt bs n rest
ValueAt wires.Fixed64 bs skipped rest = FixedAt bs 8 rest
ValueAt wires.Fixed32 bs skipped rest = FixedAt bs 4 rest
ValueAt wires.LengthDelimited bs (bytes prefix) rest = LengthAt bs prefix rest
ValueAt _ _ _ _ = ⊥

-- a complete length, followed by too few bytes
pub record TruncatedLengthDelimited (bytes : List ℕ) : Type 0 where
  pub len : ℕ
  pub mid : List ℕ
  pub reads : NumberAt bytes len mid
  pub too_few : length mid < len

abbrev pub FixedError : ℕ → List ℕ → DecodeError → Type 0
FixedError len bs errors.Truncated = length bs < len
FixedError len bs _ = ⊥

abbrev pub ValueError : WireType → List ℕ → DecodeError → Type 0
ValueError wires.Varint bs e = NumberError bs e
ValueError wires.Fixed64 bs e = FixedError 8 bs e
ValueError wires.Fixed32 bs e = FixedError 4 bs e
ValueError wires.LengthDelimited bs errors.Truncated = TruncatedVarint 10 bs ⊎ TruncatedLengthDelimited bs
ValueError wires.LengthDelimited bs errors.Varint = OverlongVarint 10 bs
ValueError _ _ _ = ⊥

abbrev pub IsNotGroup : WireType → Type 0
IsNotGroup wires.StartGroup = ⊥
IsNotGroup wires.EndGroup = ⊥
IsNotGroup _ = Unit {0}

abbrev pub value_contents : Value → Contents
value_contents (values.Number n) = number n
value_contents (values.Bytes b) = bytes b.now
value_contents values.Skipped = skipped

abbrev pub bytes_contents : List ℕ → Contents
bytes_contents b = bytes b
