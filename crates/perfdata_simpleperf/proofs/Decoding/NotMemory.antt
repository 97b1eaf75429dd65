-- No bytes are in error for lack of memory.
use Rattle.std.proofs.Common.{◌≡◌, ℕ, List, inl, inr, Bool, true, false, ◌⊎◌, subst}
use Rattle.std.specs.Prelude.{Result, Ok, Err, IfErr}
use Rattle.perfdata_sections.specs.declared.decode_error.DecodeError.{DecodeError}
use Rattle.perfdata_sections.specs.declared.decode_error.DecodeError.TheVariants as errors
use Rattle.perfdata_simpleperf.specs.declared.protobuf.field.Message.{Message}
use Rattle.perfdata_simpleperf.specs.declared.protobuf.field.Message.TheVariants as messages
use Rattle.perfdata_simpleperf.specs.declared.protobuf.field.FieldType.{FieldType}
use Rattle.perfdata_simpleperf.specs.declared.protobuf.field.FieldType.TheVariants as field_types
use Rattle.perfdata_simpleperf.specs.declared.protobuf.wire.WireType.{WireType}
use Rattle.perfdata_simpleperf.specs.declared.protobuf.wire.WireType.TheVariants as wires
use Rattle.perfdata_simpleperf.specs.Protobuf.WireFormat.{Contents, bytes}
use Rattle.perfdata_simpleperf.specs.Protobuf.Groups.{SkipItemError, GroupError}
use Rattle.perfdata_simpleperf.specs.Protobuf.Fields.{ContentsReadError, AfterKeyError, FieldError}
use Rattle.perfdata_simpleperf.specs.Protobuf.Messages.{NoNestedMessageError, IsInvalidContents, LeafError, FileMessageError, FileNeedsMemory}

skip_error : (wire : WireType) (n : ℕ) (open_groups bs : List ℕ) → SkipItemError wire n open_groups bs errors.Memory → ⊥
skip_error wires.Varint n open_groups bs e = e
skip_error wires.Fixed64 n open_groups bs e = e
skip_error wires.Fixed32 n open_groups bs e = e
skip_error wires.LengthDelimited n open_groups bs e = e
skip_error wires.StartGroup n open_groups bs e = e
skip_error wires.EndGroup n open_groups bs e = e

group_error : (n : ℕ) (bs : List ℕ) → GroupError n bs errors.Memory → ⊥
group_error n bs g = elim g.error_here [
  | inl key ↦ key
  | inr after ↦ skip_error after.wire_type after.field_number g.open_groups after.mid after.error
]

contents_read_error : (wire : WireType) (n : ℕ) (bs : List ℕ) → ContentsReadError wire n bs errors.Memory → ⊥
contents_read_error wires.Varint n bs e = e
contents_read_error wires.Fixed64 n bs e = e
contents_read_error wires.Fixed32 n bs e = e
contents_read_error wires.LengthDelimited n bs e = e
contents_read_error wires.StartGroup n bs e = group_error n bs e
contents_read_error wires.EndGroup n bs e = e

after_key_error : (accepted : Bool) (wire : WireType) (n : ℕ) (bs : List ℕ) → AfterKeyError accepted wire n bs errors.Memory → ⊥
after_key_error true wire n bs e = contents_read_error wire n bs e
after_key_error false wire n bs e = absurd cc

field_error : (message : Message) (bs : List ℕ) → FieldError message bs errors.Memory → ⊥
field_error message bs e = elim e [
  | inl key ↦ key
  | inr after ↦ after_key_error _ after.wire_type after.field_number after.mid after.error
]

leaf_contents : (kind : FieldType) (x : Contents) → IsInvalidContents NoNestedMessageError kind x errors.Memory → ⊥
leaf_contents field_types.Text (bytes b) e = e
leaf_contents field_types.Numbers (bytes b) e = e.error_here
leaf_contents (field_types.Submessage m) (bytes b) e = e
leaf_contents kind x e = absurd e

leaf_error : (message : Message) (bs : List ℕ) → LeafError message bs errors.Memory → ⊥
leaf_error message bs e = elim e.error_here [
  | inl field ↦ field_error message e.mid field
  | inr contents ↦ leaf_contents _ contents.field.contents contents.error
]

file_contents : (kind : FieldType) (x : Contents) → IsInvalidContents LeafError kind x errors.Memory → ⊥
file_contents field_types.Text (bytes b) e = e
file_contents field_types.Numbers (bytes b) e = e.error_here
file_contents (field_types.Submessage m) (bytes b) e = leaf_error m b e
file_contents kind x e = absurd e

pub file_error_not_memory : (bs : List ℕ) → FileMessageError bs errors.Memory → ⊥
file_error_not_memory bs e = elim e.error_here [
  | inl field ↦ field_error messages.File e.mid field
  | inr contents ↦ file_contents _ contents.field.contents contents.error
]

-- an allocation failure has its cause
pub decode_memory : {A : Type 0} (bs : List ℕ) (r : Result A DecodeError) → IfErr r (λ e. ((e ≡ errors.Memory) × FileNeedsMemory bs) ⊎ FileMessageError bs e) → IfErr r (λ e. e ≡ errors.Memory → FileNeedsMemory bs)
decode_memory bs (Ok a) error = tt
decode_memory bs (Err e) error = λ memory. elim error [
  | inl cause ↦ cause.1
  | inr other ↦ absurd (file_error_not_memory bs (subst (FileMessageError bs) memory other))
]
