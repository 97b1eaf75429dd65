-- Messages: the fields of all their bytes, the validity of each field's contents, and the first error.
use Rattle.std.specs.Prelude.{◌≡◌, ℕ, ◌<◌, ◌⊎◌, List, [], ◌∷◌, length, IsUtf8}
use Rattle.perfdata_sections.specs.declared.decode_error.DecodeError.{DecodeError}
use Rattle.perfdata_sections.specs.declared.decode_error.DecodeError.TheVariants as errors
use Rattle.perfdata_simpleperf.specs.declared.protobuf.field.Message.{Message}
use Rattle.perfdata_simpleperf.specs.declared.protobuf.field.Message.TheVariants as messages
use Rattle.perfdata_simpleperf.specs.declared.protobuf.field.FieldType.{FieldType}
use Rattle.perfdata_simpleperf.specs.declared.protobuf.field.FieldType.TheVariants as field_types
use Rattle.perfdata_simpleperf.specs.Protobuf.WireFormat.{NumberAt, NumberError, Contents, number, bytes}
use Rattle.perfdata_simpleperf.specs.Protobuf.Fields.{FieldValue, field_type, FieldAt, FieldError}

-- ---- consecutive numbers

abbrev pub NumbersAt : List ℕ → List ℕ → List ℕ → Type 0
NumbersAt bs [] rest = bs ≡ rest
NumbersAt bs (n ∷ ns) rest = (mid : List ℕ) × NumberAt bs n mid × NumbersAt mid ns rest

-- the bytes are the encodings of these numbers
abbrev pub ArePacked : List ℕ → List ℕ → Type 0
ArePacked bs ns = NumbersAt bs ns []

-- complete numbers, followed by bytes that don't begin with one
pub record PackedError (bs : List ℕ) (e : DecodeError) : Type 0 where
  pub numbers : List ℕ
  pub mid : List ℕ
  pub earlier : NumbersAt bs numbers mid
  pub is_nonempty : 0 < length mid
  pub error_here : NumberError mid e

-- ---- consecutive fields, each with contents that are valid by themselves

-- the contents are valid for a field of this type; `Submessage` says which bytes are a message
abbrev pub IsValidContents : (Message → List ℕ → Type 0) → FieldType → Contents → Type 0
IsValidContents Submessage field_types.Text (bytes b) = IsUtf8 b
IsValidContents Submessage field_types.Numbers (bytes b) = (ns : List ℕ) × ArePacked b ns
IsValidContents Submessage (field_types.Submessage m) (bytes b) = Submessage m b
IsValidContents Submessage _ _ = Unit {0}

abbrev pub IsInvalidContents : (Message → List ℕ → DecodeError → Type 0) → FieldType → Contents → DecodeError → Type 0
IsInvalidContents SubmessageError field_types.Text (bytes b) errors.Utf8 = IsUtf8 b → ⊥
IsInvalidContents SubmessageError field_types.Numbers (bytes b) e = PackedError b e
IsInvalidContents SubmessageError (field_types.Submessage m) (bytes b) e = SubmessageError m b e
IsInvalidContents SubmessageError _ _ _ = ⊥

module _ (Submessage : Message → List ℕ → Type 0) (message : Message) where
  abbrev pub FieldsWith : List ℕ → List FieldValue → List ℕ → Type 0
  FieldsWith bs [] rest = bs ≡ rest
  FieldsWith bs (p ∷ ps) rest =
      (mid : List ℕ) × FieldAt message bs p mid × IsValidContents Submessage (field_type message p.field_number) p.contents × FieldsWith mid ps rest

-- the bytes begin with a field whose contents are invalid
pub record FieldContentsError (Invalid : FieldType → Contents → DecodeError → Type 0) (message : Message) (bs : List ℕ) (e : DecodeError) : Type 0 where
  pub field : FieldValue
  pub rest : List ℕ
  pub reads : FieldAt message bs field rest
  pub error : Invalid (field_type message field.field_number) field.contents e

-- complete fields, followed by an error
pub record MessageErrorWith (Submessage : Message → List ℕ → Type 0) (Invalid : FieldType → Contents → DecodeError → Type 0) (message : Message) (bs : List ℕ)
    (e : DecodeError) : Type 0 where
  pub fields : List FieldValue
  pub mid : List ℕ
  pub earlier : FieldsWith Submessage message bs fields mid
  pub is_nonempty : 0 < length mid
  pub error_here : FieldError message mid e ⊎ FieldContentsError Invalid message mid e

-- messages without submessages
abbrev pub NoNestedMessage : Message → List ℕ → Type 0
NoNestedMessage _ _ = ⊥

abbrev pub NoNestedMessageError : Message → List ℕ → DecodeError → Type 0
NoNestedMessageError _ _ _ = ⊥

abbrev pub LeafFields : Message → List ℕ → List FieldValue → List ℕ → Type 0
LeafFields m bs ps rest = FieldsWith NoNestedMessage m bs ps rest

abbrev pub LeafError : Message → List ℕ → DecodeError → Type 0
LeafError m bs e = MessageErrorWith NoNestedMessage (IsInvalidContents NoNestedMessageError) m bs e

-- the bytes are a message of these fields
abbrev pub IsLeaf : Message → List ℕ → List FieldValue → Type 0
IsLeaf m bs ps = LeafFields m bs ps []

-- the file record, whose submessages have no submessages
abbrev pub IsAnyLeaf : Message → List ℕ → Type 0
IsAnyLeaf m bs = (ps : List FieldValue) × IsLeaf m bs ps

abbrev pub FileFields : List ℕ → List FieldValue → List ℕ → Type 0
FileFields bs ps rest = FieldsWith IsAnyLeaf messages.File bs ps rest

abbrev pub IsFileMessage : List ℕ → List FieldValue → Type 0
IsFileMessage bs ps = FileFields bs ps []

abbrev pub FileMessageError : List ℕ → DecodeError → Type 0
FileMessageError bs e = MessageErrorWith IsAnyLeaf (IsInvalidContents LeafError) messages.File bs e

-- ---- where memory can run out

-- the bytes begin with a number
abbrev pub BeginsWithNumber : List ℕ → Type 0
BeginsWithNumber bs = (n : ℕ) × (rest : List ℕ) × NumberAt bs n rest

-- memory can run out for these contents of a field of this type; `SubmessageNeeds` says for which bytes of a message it can
abbrev pub NeedsMemory : (Message → List ℕ → Type 0) → FieldType → Contents → Type 0
NeedsMemory SubmessageNeeds field_types.Text (bytes b) = IsUtf8 b
NeedsMemory SubmessageNeeds field_types.Numbers (number n) = Unit {0}
NeedsMemory SubmessageNeeds field_types.Numbers (bytes b) = BeginsWithNumber b
NeedsMemory SubmessageNeeds (field_types.Submessage m) (bytes b) = SubmessageNeeds m b
NeedsMemory SubmessageNeeds _ _ = ⊥

-- complete fields with valid contents, followed by a complete field for whose contents memory can run out
pub record MessageNeedsMemory (Submessage : Message → List ℕ → Type 0) (SubmessageNeeds : Message → List ℕ → Type 0) (message : Message)
    (bs : List ℕ) : Type 0 where
  pub fields : List FieldValue
  pub mid : List ℕ
  pub earlier : FieldsWith Submessage message bs fields mid
  pub field : FieldValue
  pub rest : List ℕ
  pub reads : FieldAt message mid field rest
  pub needs : NeedsMemory SubmessageNeeds (field_type message field.field_number) field.contents

abbrev pub NoNestedNeeds : Message → List ℕ → Type 0
NoNestedNeeds _ _ = ⊥

abbrev pub LeafNeedsMemory : Message → List ℕ → Type 0
LeafNeedsMemory m bs = MessageNeedsMemory NoNestedMessage NoNestedNeeds m bs

-- memory can run out in a submessage, or for a valid symbol
abbrev pub SubmessageNeedsMemory : Message → List ℕ → Type 0
SubmessageNeedsMemory m bs = LeafNeedsMemory m bs ⊎ ((m ≡ messages.Symbol) × IsAnyLeaf m bs)

abbrev pub FileNeedsMemory : List ℕ → Type 0
FileNeedsMemory bs = MessageNeedsMemory IsAnyLeaf SubmessageNeedsMemory messages.File bs
