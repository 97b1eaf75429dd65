-- Bytes are a message of some fields, or else have an error.
use Rattle.std.proofs.Common.{◌≡◌, ℕ, zero, suc, ◌<◌, ◌⊎◌, inl, inr, Bool, true, false, cond, List, [], ◌∷◌, length, refl, sym, ◌∙◌, subst, arith}
use Rattle.std.specs.Prelude.{◌==◌, ◌||◌}
use Rattle.std.proofs.lemmas.Bool.{cases_Bool, false≢true}
use Rattle.std.proofs.lemmas.Str.{IsUtf8-from_is_utf8, is_utf8-from_IsUtf8}
use Rattle.std.specs.Str.{is_utf8}
use Rattle.perfdata_sections.specs.declared.decode_error.DecodeError.{DecodeError}
use Rattle.perfdata_sections.specs.declared.decode_error.DecodeError.TheVariants as errors
use Rattle.perfdata_simpleperf.specs.declared.protobuf.wire.WireType.{WireType}
use Rattle.perfdata_simpleperf.specs.declared.protobuf.wire.WireType.TheVariants as wires
use Rattle.perfdata_simpleperf.specs.declared.protobuf.field.Message.{Message}
use Rattle.perfdata_simpleperf.specs.declared.protobuf.field.Message.TheVariants as messages
use Rattle.perfdata_simpleperf.specs.declared.protobuf.field.FieldType.{FieldType}
use Rattle.perfdata_simpleperf.specs.declared.protobuf.field.FieldType.TheVariants as field_types
use Rattle.perfdata_simpleperf.specs.Protobuf.WireFormat.{KeyAt, Contents, number, bytes, skipped}
use Rattle.perfdata_simpleperf.specs.Protobuf.Fields.{FieldValue, field_type, is_accepted, FieldAt, FieldError, ContentsAt, ContentsReadError, AfterKeyError}
use Rattle.perfdata_simpleperf.specs.Protobuf.Messages.{NumbersAt, ArePacked, PackedError, IsValidContents, IsInvalidContents, FieldsWith, MessageErrorWith, NoNestedMessage, NoNestedMessageError, LeafError, IsAnyLeaf, IsFileMessage, FileMessageError}
use Rattle.perfdata_simpleperf.proofs.Decoding.GroupSteps.{varint_shorter}
use Rattle.perfdata_simpleperf.proofs.Decoding.MessageSteps.{fields_then, field_shorter, numbers_then}
use Rattle.perfdata_simpleperf.proofs.Decoding.ItemDecidability.{AreBytes, HasError, ReadingOrError, HoldsBytes, number_some, key_some, value_some, group_some}

-- ---- fields

abbrev ContentsOfBytes : WireType → ℕ → List ℕ → Contents → List ℕ → Type 0
ContentsOfBytes w n bs x rest = ContentsAt w n bs x rest × HoldsBytes x

contents_at_group : (n : ℕ) (bs : List ℕ) → AreBytes bs → ReadingOrError Contents (ContentsOfBytes wires.StartGroup n bs) (ContentsReadError wires.StartGroup n bs)
contents_at_group n bs are = elim (group_some n bs are) [
  | inl g ↦ inl record { value = skipped; rest = g.rest; at = (g.at.1, tt); are = g.are }
  | inr error ↦ inr error
]

contents_at_some : (w : WireType) (n : ℕ) (bs : List ℕ) → AreBytes bs → ReadingOrError Contents (ContentsOfBytes w n bs) (ContentsReadError w n bs)
contents_at_some wires.StartGroup n bs are = contents_at_group n bs are
contents_at_some wires.EndGroup n bs are = inr (errors.Group, tt)
contents_at_some wires.Varint n bs are = value_some wires.Varint bs tt are
contents_at_some wires.Fixed64 n bs are = value_some wires.Fixed64 bs tt are
contents_at_some wires.LengthDelimited n bs are = value_some wires.LengthDelimited bs tt are
contents_at_some wires.Fixed32 n bs are = value_some wires.Fixed32 bs tt are

abbrev HasField : Message → List ℕ → FieldValue → List ℕ → Type 0
HasField m bs p rest = FieldAt m bs p rest × HoldsBytes p.contents

field_after_key : (m : Message) (bs : List ℕ) (n : ℕ) (w : WireType) (mid : List ℕ) → KeyAt bs n w mid → AreBytes mid → is_accepted (field_type m n) w ≡ true → ReadingOrError FieldValue (HasField m bs) (FieldError m bs)
field_after_key m bs n w mid key are permitted = elim (contents_at_some w n mid are) [
  | inl x ↦ inl record {
    value = record { field_number = n; contents = x.value };
    rest = x.rest;
    at = (record { wire_type = w; mid = mid; key = key; is_accepted = permitted; contents_at = x.at.0 }, x.at.1);
    are = x.are;
  }
  | inr error ↦ inr (error.0, inr record { field_number = n; wire_type = w; mid = mid; key = key; error = subst (λ (b : Bool). AfterKeyError b w n mid error.0) (sym permitted) error.1 })
]

field_some : (m : Message) (bs : List ℕ) → AreBytes bs → ReadingOrError FieldValue (HasField m bs) (FieldError m bs)
field_some m bs are = elim (key_some bs are) [
  | inl key ↦ elim (cases_Bool (is_accepted (field_type m key.value.0) key.value.1)) [
    | inl permitted ↦ field_after_key m bs key.value.0 key.value.1 key.rest key.at key.are permitted
    | inr other ↦ inr (errors.WireType, inr record { field_number = key.value.0; wire_type = key.value.1; mid = key.rest; key = key.at; error = subst (λ (b : Bool). AfterKeyError b key.value.1 key.value.0 key.rest errors.WireType) (sym other) refl })
  ]
  | inr error ↦ inr (error.0, inl error.1)
]

-- ---- contents

packed_more : (most : ℕ) (bs ns mid : List ℕ) → NumbersAt bs ns mid → length mid < most → AreBytes mid → ((xs : List ℕ) × ArePacked bs xs) ⊎ HasError (PackedError bs)
packed_more zero bs ns mid before less are = absurd (omega (arith, less))
packed_more (suc most) bs ns [] before less are = inl (ns, before)
packed_more (suc most) bs ns (b ∷ mid) before less are = elim (number_some (b ∷ mid) are) [
  | inl n ↦
      let shorter = varint_shorter 10 _ (b ∷ mid) n.value n.rest n.at in
      packed_more most bs _ n.rest (numbers_then bs ns (b ∷ mid) n.value n.rest before n.at) (omega (arith, shorter, less)) n.are
  | inr error ↦ inr (error.0, record { numbers = ns; mid = b ∷ mid; earlier = before; is_nonempty = omega arith; error_here = error.1 })
]

packed_some : (bs : List ℕ) → AreBytes bs → ((xs : List ℕ) × ArePacked bs xs) ⊎ HasError (PackedError bs)
packed_some bs are = packed_more (suc (length bs)) bs [] bs refl (omega arith) are

abbrev ValidOrInvalid : (Message → List ℕ → Type 0) → (Message → List ℕ → DecodeError → Type 0) → FieldType → Contents → Type 0
ValidOrInvalid Submessage SubmessageError s x = IsValidContents Submessage s x ⊎ HasError (IsInvalidContents SubmessageError s x)

text_some : (Submessage : Message → List ℕ → Type 0) (SubmessageError : Message → List ℕ → DecodeError → Type 0) (b : List ℕ) → ValidOrInvalid Submessage SubmessageError field_types.Text (bytes b)
text_some Submessage SubmessageError b = elim (cases_Bool (is_utf8 b)) [
  | inl text ↦ inl (IsUtf8-from_is_utf8 b text)
  | inr other ↦ inr (errors.Utf8, λ is. false≢true (sym other ∙ is_utf8-from_IsUtf8 b is))
]

-- a field's submessage is one of these messages
abbrev IsAmong : (Message → Type 0) → FieldType → Type 0
IsAmong These (field_types.Submessage m) = These m
IsAmong These _ = Unit {0}

module _ (Submessage : Message → List ℕ → Type 0) (SubmessageError : Message → List ℕ → DecodeError → Type 0) (These : Message → Type 0) (submessage : (m : Message) (bs : List ℕ) → These m → AreBytes bs → Submessage m bs ⊎ HasError (SubmessageError m bs)) where
  contents_some : (s : FieldType) (x : Contents) → IsAmong These s → HoldsBytes x → ValidOrInvalid Submessage SubmessageError s x
  contents_some field_types.Text (bytes b) among are = text_some Submessage SubmessageError b
  contents_some field_types.Numbers (bytes b) among are = packed_some b are
  contents_some (field_types.Submessage m) (bytes b) among are = submessage m b among are
  contents_some field_types.Text (number n) among are = inl tt
  contents_some field_types.Text skipped among are = inl tt
  contents_some field_types.Numbers (number n) among are = inl tt
  contents_some field_types.Numbers skipped among are = inl tt
  contents_some (field_types.Submessage m) (number n) among are = inl tt
  contents_some (field_types.Submessage m) skipped among are = inl tt
  contents_some field_types.Unknown x among are = inl tt
  contents_some field_types.Number x among are = inl tt

  -- ---- messages

  module _ (m : Message) (among : (n : ℕ) → IsAmong These (field_type m n)) where
    fields_more : (most : ℕ) (bs : List ℕ) (ps : List FieldValue) (mid : List ℕ) → FieldsWith Submessage m bs ps mid → length mid < most → AreBytes mid → ((qs : List FieldValue) × FieldsWith Submessage m bs qs []) ⊎ HasError (MessageErrorWith Submessage (IsInvalidContents SubmessageError) m bs)
    fields_more zero bs ps mid before less are = absurd (omega (arith, less))
    fields_more (suc most) bs ps [] before less are = inl (ps, before)
    fields_more (suc most) bs ps (b ∷ mid) before less are = elim (field_some m (b ∷ mid) are) [
      | inl p ↦ elim (contents_some (field_type m p.value.field_number) p.value.contents (among p.value.field_number) p.at.1) [
        | inl valid ↦
            let shorter = field_shorter m (b ∷ mid) p.value p.rest p.at.0 in
            fields_more most bs _ p.rest (fields_then Submessage m bs ps (b ∷ mid) p.value p.rest before p.at.0 valid) (omega (arith, shorter, less)) p.are
        | inr invalid ↦ inr (invalid.0, record { fields = ps; mid = b ∷ mid; earlier = before; is_nonempty = omega arith; error_here = inr record { field = p.value; rest = p.rest; reads = p.at.0; error = invalid.1 } })
      ]
      | inr error ↦ inr (error.0, record { fields = ps; mid = b ∷ mid; earlier = before; is_nonempty = omega arith; error_here = inl error.1 })
    ]

    pub message_some : (bs : List ℕ) → AreBytes bs → ((qs : List FieldValue) × FieldsWith Submessage m bs qs []) ⊎ HasError (MessageErrorWith Submessage (IsInvalidContents SubmessageError) m bs)
    message_some bs are = fields_more (suc (length bs)) bs [] bs refl (omega arith) are

-- ---- the messages of a file record

abbrev NoMessage : Message → Type 0
NoMessage m = ⊥

abbrev IsSubmessage : Message → Type 0
IsSubmessage messages.File = ⊥
IsSubmessage _ = Unit {0}

no_submessage : (m : Message) (bs : List ℕ) → NoMessage m → AreBytes bs → NoNestedMessage m bs ⊎ HasError (NoNestedMessageError m bs)
no_submessage m bs none are = absurd none

symbol_known : (a b : Bool) → IsAmong NoMessage (cond a field_types.Number (cond b field_types.Text field_types.Unknown))
symbol_known true b = tt
symbol_known false true = tt
symbol_known false false = tt

symbol_field_types : (n : ℕ) → IsAmong NoMessage (field_type messages.Symbol n)
symbol_field_types n = symbol_known ((n == 1) || (n == 2)) (n == 3)

dex_known : (a : Bool) → IsAmong NoMessage (cond a field_types.Numbers field_types.Unknown)
dex_known true = tt
dex_known false = tt

dex_field_types : (n : ℕ) → IsAmong NoMessage (field_type messages.Dex n)
dex_field_types n = dex_known (n == 1)

address_known : (a : Bool) → IsAmong NoMessage (cond a field_types.Number field_types.Unknown)
address_known true = tt
address_known false = tt

address_field_types : (n : ℕ) → IsAmong NoMessage (field_type messages.Address n)
address_field_types n = address_known (n == 1)

file_known : (a b c d e : Bool) → IsAmong IsSubmessage (cond a field_types.Text (cond b field_types.Number (cond c (field_types.Submessage messages.Symbol) (cond d (field_types.Submessage messages.Dex) (cond e (field_types.Submessage messages.Address) field_types.Unknown)))))
file_known true b c d e = tt
file_known false true c d e = tt
file_known false false true d e = tt
file_known false false false true e = tt
file_known false false false false true = tt
file_known false false false false false = tt

file_field_types : (n : ℕ) → IsAmong IsSubmessage (field_type messages.File n)
file_field_types n = file_known (n == 1) ((n == 2) || (n == 3)) (n == 4) (n == 5) ((n == 6) || (n == 7))

leaf_some : (m : Message) (bs : List ℕ) → IsSubmessage m → AreBytes bs → IsAnyLeaf m bs ⊎ HasError (LeafError m bs)
leaf_some messages.File bs is are = absurd is
leaf_some messages.Symbol bs is are = message_some NoNestedMessage NoNestedMessageError NoMessage no_submessage messages.Symbol symbol_field_types bs are
leaf_some messages.Dex bs is are = message_some NoNestedMessage NoNestedMessageError NoMessage no_submessage messages.Dex dex_field_types bs are
leaf_some messages.Address bs is are = message_some NoNestedMessage NoNestedMessageError NoMessage no_submessage messages.Address address_field_types bs are

pub file_some : (bs : List ℕ) → AreBytes bs → ((ps : List FieldValue) × IsFileMessage bs ps) ⊎ ((e : DecodeError) × FileMessageError bs e)
file_some bs are = message_some IsAnyLeaf LeafError IsSubmessage leaf_some messages.File file_field_types bs are
