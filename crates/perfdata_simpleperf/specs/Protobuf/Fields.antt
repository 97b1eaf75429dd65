-- The fields of each message: the first field of some bytes, or its first error.
use Rattle.std.specs.Prelude.{◌≡◌, ℕ, ◌⊎◌, Bool, true, false, ◌==◌, ◌||◌, if◌then◌else◌, List}
use Rattle.perfdata_sections.specs.declared.decode_error.DecodeError.{DecodeError}
use Rattle.perfdata_sections.specs.declared.decode_error.DecodeError.TheVariants as errors
use Rattle.perfdata_simpleperf.specs.declared.protobuf.wire.WireType.{WireType}
use Rattle.perfdata_simpleperf.specs.declared.protobuf.wire.WireType.TheVariants as wires
use Rattle.perfdata_simpleperf.specs.declared.protobuf.field.Message.{Message}
use Rattle.perfdata_simpleperf.specs.declared.protobuf.field.Message.TheVariants as messages
use Rattle.perfdata_simpleperf.specs.declared.protobuf.field.FieldType.{FieldType}
use Rattle.perfdata_simpleperf.specs.declared.protobuf.field.FieldType.TheVariants as field_types
use Rattle.perfdata_simpleperf.specs.declared.protobuf.field.Field.{Field}
use Rattle.perfdata_simpleperf.specs.Protobuf.WireFormat.{KeyAt, KeyError, Contents, skipped, ValueAt, ValueError, value_contents}
use Rattle.perfdata_simpleperf.specs.Protobuf.Groups.{GroupAt, GroupError, AfterKey}

-- the field table of the messages
abbrev pub field_type : Message → ℕ → FieldType
field_type messages.File n =
    if n == 1 then field_types.Text
    else if (n == 2) || (n == 3) then field_types.Number
    else if n == 4 then field_types.Submessage messages.Symbol
    else if n == 5 then field_types.Submessage messages.Dex
    else if (n == 6) || (n == 7) then field_types.Submessage messages.Address
    else field_types.Unknown
field_type messages.Symbol n = if (n == 1) || (n == 2) then field_types.Number else if n == 3 then field_types.Text else field_types.Unknown
field_type messages.Dex n = if n == 1 then field_types.Numbers else field_types.Unknown
field_type messages.Address n = if n == 1 then field_types.Number else field_types.Unknown

-- the wire types that a field can have
abbrev pub is_accepted : FieldType → WireType → Bool
is_accepted field_types.Unknown _ = true
is_accepted field_types.Number wires.Varint = true
is_accepted field_types.Numbers wires.Varint = true
is_accepted field_types.Numbers wires.LengthDelimited = true
is_accepted field_types.Text wires.LengthDelimited = true
is_accepted (field_types.Submessage _) wires.LengthDelimited = true
is_accepted _ _ = false

-- a field, apart from its location in memory
pub record FieldValue : Type 0 where
  pub field_number : ℕ
  pub contents : Contents

abbrev pub field_value : Field → FieldValue
field_value f = record { field_number = f.number; contents = value_contents f.value }

-- the contents after a key that isn't in a group
abbrev pub ContentsAt : WireType → ℕ → List ℕ → Contents → List ℕ → Type 0
ContentsAt wires.StartGroup n bs skipped rest = GroupAt n bs rest
ContentsAt wire n bs x rest = ValueAt wire bs x rest

-- the bytes begin with a complete field, followed by `rest`
pub record FieldAt (message : Message) (bs : List ℕ) (p : FieldValue) (rest : List ℕ) : Type 0 where
  pub wire_type : WireType
  pub mid : List ℕ
  pub key : KeyAt bs p.field_number wire_type mid
  pub is_accepted : is_accepted (field_type message p.field_number) wire_type ≡ true
  pub contents_at : ContentsAt wire_type p.field_number mid p.contents rest

abbrev pub ContentsReadError : WireType → ℕ → List ℕ → DecodeError → Type 0
ContentsReadError wires.StartGroup n bs e = GroupError n bs e
ContentsReadError wires.EndGroup n bs errors.Group = Unit {0}
ContentsReadError wire n bs e = ValueError wire bs e

-- the error after a key: the field doesn't permit the wire type, or else its contents have an error
abbrev pub AfterKeyError : Bool → WireType → ℕ → List ℕ → DecodeError → Type 0
AfterKeyError false wire n bs e = e ≡ errors.WireType
AfterKeyError true wire n bs e = ContentsReadError wire n bs e

abbrev pub FieldError : Message → List ℕ → DecodeError → Type 0
FieldError message bs e = KeyError bs e ⊎ AfterKey bs (λ n wire mid. AfterKeyError (is_accepted (field_type message n) wire) wire n mid e)
