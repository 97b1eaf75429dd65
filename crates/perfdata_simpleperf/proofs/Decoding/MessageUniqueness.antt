-- A field and a message can be decoded in at most one way, and not if they have an error.
use Rattle.std.proofs.Common.{◌≡◌, ℕ, ◌^◌, ◌<◌, ◌⊎◌, inl, inr, Bool, true, false, List, [], ◌∷◌, length, refl, ap, sym, ◌∙◌, subst, arith}
use Rattle.perfdata_sections.specs.declared.decode_error.DecodeError.{DecodeError}
use Rattle.perfdata_sections.specs.declared.decode_error.DecodeError.TheVariants as errors
use Rattle.perfdata_simpleperf.specs.declared.protobuf.wire.WireType.{WireType}
use Rattle.perfdata_simpleperf.specs.declared.protobuf.wire.WireType.TheVariants as wires
use Rattle.perfdata_simpleperf.specs.declared.protobuf.field.Message.{Message}
use Rattle.perfdata_simpleperf.specs.declared.protobuf.field.Message.TheVariants as messages
use Rattle.perfdata_simpleperf.specs.declared.protobuf.field.FieldType.{FieldType}
use Rattle.perfdata_simpleperf.specs.declared.protobuf.field.FieldType.TheVariants as field_types
use Rattle.perfdata_simpleperf.specs.Protobuf.WireFormat.{NumberAt, NumberError, Contents, bytes, skipped}
use Rattle.perfdata_simpleperf.specs.Protobuf.Fields.{FieldValue, field_type, is_accepted, FieldAt, FieldError, ContentsAt, ContentsReadError, AfterKeyError}
use Rattle.perfdata_simpleperf.specs.Protobuf.Messages.{NumbersAt, ArePacked, IsValidContents, IsInvalidContents, FieldsWith, FieldContentsError, MessageErrorWith, NoNestedMessage, NoNestedMessageError, LeafError, IsLeaf, IsAnyLeaf, IsFileMessage, FileMessageError}
use Rattle.perfdata_simpleperf.proofs.Decoding.GroupSteps.{varint_shorter}
use Rattle.perfdata_simpleperf.proofs.Decoding.MessageSteps.{field_shorter}
use Rattle.perfdata_simpleperf.proofs.Decoding.NumberUniqueness.{number_same, number_is_unique}
use Rattle.perfdata_simpleperf.proofs.Decoding.ItemUniqueness.{key_same, key_not_both, key_error, contents_is_unique, moved, group_same, group_not_both, group_error}

-- ---- fields

contents_at_same : (w : WireType) (n : ℕ) (bs : List ℕ) (x y : Contents) (r s : List ℕ) → ContentsAt w n bs x r → ContentsAt w n bs y s → (x ≡ y) × (r ≡ s)
contents_at_same wires.StartGroup n bs skipped skipped r s p q = (refl, group_same n bs r s p q)
contents_at_same wires.StartGroup n bs skipped _ r s p q = absurd q
contents_at_same wires.StartGroup n bs _ _ r s p q = absurd p
contents_at_same wires.EndGroup n bs x y r s p q = (contents_is_unique wires.EndGroup bs).value x y r s p q
contents_at_same wires.Varint n bs x y r s p q = (contents_is_unique wires.Varint bs).value x y r s p q
contents_at_same wires.Fixed64 n bs x y r s p q = (contents_is_unique wires.Fixed64 bs).value x y r s p q
contents_at_same wires.Fixed32 n bs x y r s p q = (contents_is_unique wires.Fixed32 bs).value x y r s p q
contents_at_same wires.LengthDelimited n bs x y r s p q = (contents_is_unique wires.LengthDelimited bs).value x y r s p q

contents_at_not_both : (w : WireType) (n : ℕ) (bs : List ℕ) (x : Contents) (r : List ℕ) (e : DecodeError) → ContentsAt w n bs x r → ContentsReadError w n bs e → ⊥
contents_at_not_both wires.StartGroup n bs skipped r e p f = group_not_both n bs r e p f
contents_at_not_both wires.StartGroup n bs _ r e p f = absurd p
contents_at_not_both wires.EndGroup n bs x r e p f = absurd p
contents_at_not_both wires.Varint n bs x r e p f = (contents_is_unique wires.Varint bs).not_both x r e p f
contents_at_not_both wires.Fixed64 n bs x r e p f = (contents_is_unique wires.Fixed64 bs).not_both x r e p f
contents_at_not_both wires.Fixed32 n bs x r e p f = (contents_is_unique wires.Fixed32 bs).not_both x r e p f
contents_at_not_both wires.LengthDelimited n bs x r e p f = (contents_is_unique wires.LengthDelimited bs).not_both x r e p f

contents_at_error : (w : WireType) (n : ℕ) (bs : List ℕ) (e f : DecodeError) → ContentsReadError w n bs e → ContentsReadError w n bs f → e ≡ f
contents_at_error wires.StartGroup n bs e f p q = group_error n bs e f p q
contents_at_error wires.EndGroup n bs errors.Group errors.Group p q = refl
contents_at_error wires.EndGroup n bs errors.Group _ p q = absurd q
contents_at_error wires.EndGroup n bs _ _ p q = absurd p
contents_at_error wires.Varint n bs e f p q = (contents_is_unique wires.Varint bs).error e f p q
contents_at_error wires.Fixed64 n bs e f p q = (contents_is_unique wires.Fixed64 bs).error e f p q
contents_at_error wires.Fixed32 n bs e f p q = (contents_is_unique wires.Fixed32 bs).error e f p q
contents_at_error wires.LengthDelimited n bs e f p q = (contents_is_unique wires.LengthDelimited bs).error e f p q

after_key_not_both : (b : Bool) (w : WireType) (n : ℕ) (bs : List ℕ) (x : Contents) (r : List ℕ) (e : DecodeError) → b ≡ true → ContentsAt w n bs x r → AfterKeyError b w n bs e → ⊥
after_key_not_both true w n bs x r e t p f = contents_at_not_both w n bs x r e p f
after_key_not_both false w n bs x r e t p f = absurd cc

after_key_error : (b : Bool) (w : WireType) (n : ℕ) (bs : List ℕ) (e f : DecodeError) → AfterKeyError b w n bs e → AfterKeyError b w n bs f → e ≡ f
after_key_error true w n bs e f p q = contents_at_error w n bs e f p q
after_key_error false w n bs e f p q = p ∙ sym q

abbrev made : ℕ → Contents → FieldValue
made n x = record { field_number = n; contents = x }

part_same : (p q : FieldValue) → p.field_number ≡ q.field_number → p.contents ≡ q.contents → p ≡ q
part_same p q a b = ap (λ (n : ℕ). made n p.contents) a ∙ ap (λ (x : Contents). made q.field_number x) b

module _ (m : Message) where
  pub field_same : (bs : List ℕ) (p q : FieldValue) (r s : List ℕ) → FieldAt m bs p r → FieldAt m bs q s → (p ≡ q) × (r ≡ s)
  field_same bs p q r s f g =
      let k = key_same bs p.field_number q.field_number f.wire_type g.wire_type f.mid g.mid f.key g.key in
      let h = moved (λ n w x. ContentsAt w n x p.contents r) bs p.field_number q.field_number f.wire_type g.wire_type f.mid g.mid f.key g.key f.contents_at in
      let e = contents_at_same g.wire_type q.field_number g.mid p.contents q.contents r s h g.contents_at in
      (part_same p q k.0 e.0, e.1)

  pub field_not_both : (bs : List ℕ) (p : FieldValue) (r : List ℕ) (e : DecodeError) → FieldAt m bs p r → FieldError m bs e → ⊥
  field_not_both bs p r e f (inl k) = key_not_both bs p.field_number f.wire_type f.mid e f.key k
  field_not_both bs p r e f (inr b) =
      let h = moved (λ n w x. ContentsAt w n x p.contents r) bs p.field_number b.field_number f.wire_type b.wire_type f.mid b.mid f.key b.key f.contents_at in
      let t = moved (λ n w x. is_accepted (field_type m n) w ≡ true) bs p.field_number b.field_number f.wire_type b.wire_type f.mid b.mid f.key b.key f.is_accepted in
      after_key_not_both (is_accepted (field_type m b.field_number) b.wire_type) b.wire_type b.field_number b.mid p.contents r e t h b.error

  pub field_error : (bs : List ℕ) (e f : DecodeError) → FieldError m bs e → FieldError m bs f → e ≡ f
  field_error bs e f (inl p) (inl q) = key_error bs e f p q
  field_error bs e f (inl p) (inr q) = absurd (key_not_both bs q.field_number q.wire_type q.mid e q.key p)
  field_error bs e f (inr p) (inl q) = absurd (key_not_both bs p.field_number p.wire_type p.mid f p.key q)
  field_error bs e f (inr p) (inr q) =
      let h = moved (λ n w x. AfterKeyError (is_accepted (field_type m n) w) w n x e) bs p.field_number q.field_number p.wire_type q.wire_type p.mid q.mid p.key q.key p.error in
      after_key_error (is_accepted (field_type m q.field_number) q.wire_type) q.wire_type q.field_number q.mid e f h q.error

-- ---- consecutive numbers

empty_number : (bs : List ℕ) (n : ℕ) (r : List ℕ) → bs ≡ [] → NumberAt bs n r → ⊥
empty_number bs n r e p = let a = ap length e in let b = varint_shorter 10 (2 ^ 64) bs n r p in omega (arith, a, b)

packed_not_both : (bs ms mid : List ℕ) (ns : List ℕ) (e : DecodeError) → ArePacked bs ns → NumbersAt bs ms mid → 0 < length mid → NumberError mid e → ⊥
packed_not_both bs [] mid [] e p q i f = let a = ap length (sym q ∙ p) in omega (arith, a, i)
packed_not_both bs [] mid (n ∷ ns) e p q i f = (number_is_unique bs).not_both n p.0 e p.1 (subst (λ (x : List ℕ). NumberError x e) (sym q) f)
packed_not_both bs (k ∷ ms) mid [] e p q i f = empty_number bs k q.0 p q.1
packed_not_both bs (k ∷ ms) mid (n ∷ ns) e p q i f =
    let s = number_same bs n k p.0 q.0 p.1 q.1 in
    packed_not_both q.0 ms mid ns e (subst (λ (x : List ℕ). ArePacked x ns) s.1 p.2) q.2 i f

packed_error : (bs ns ms x y : List ℕ) (e f : DecodeError) → NumbersAt bs ns x → NumbersAt bs ms y → NumberError x e → NumberError y f → e ≡ f
packed_error bs [] [] x y e f p q g h = (number_is_unique x).error e f g (subst (λ (z : List ℕ). NumberError z f) (sym q ∙ p) h)
packed_error bs [] (k ∷ ms) x y e f p q g h = absurd ((number_is_unique bs).not_both k q.0 e q.1 (subst (λ (z : List ℕ). NumberError z e) (sym p) g))
packed_error bs (n ∷ ns) [] x y e f p q g h = absurd ((number_is_unique bs).not_both n p.0 f p.1 (subst (λ (z : List ℕ). NumberError z f) (sym q) h))
packed_error bs (n ∷ ns) (k ∷ ms) x y e f p q g h =
    let s = number_same bs n k p.0 q.0 p.1 q.1 in
    packed_error q.0 ns ms x y e f (subst (λ (z : List ℕ). NumbersAt z ns x) s.1 p.2) q.2 g h

-- ---- contents

-- what the proofs assume of submessages
pub record UniqueSubmessage (Submessage : Message → List ℕ → Type 0) (SubmessageError : Message → List ℕ → DecodeError → Type 0) : Type 0 where
  pub not_both : (m : Message) (bs : List ℕ) (e : DecodeError) → Submessage m bs → SubmessageError m bs e → ⊥
  pub error : (m : Message) (bs : List ℕ) (e f : DecodeError) → SubmessageError m bs e → SubmessageError m bs f → e ≡ f

module _ (Submessage : Message → List ℕ → Type 0) (SubmessageError : Message → List ℕ → DecodeError → Type 0) (submessage : UniqueSubmessage Submessage SubmessageError) where
  valid_not_both : (s : FieldType) (x : Contents) (e : DecodeError) → IsValidContents Submessage s x → IsInvalidContents SubmessageError s x e → ⊥
  valid_not_both field_types.Text (bytes b) errors.Utf8 p f = f p
  valid_not_both field_types.Text (bytes b) _ p f = f
  valid_not_both field_types.Numbers (bytes b) e p f = packed_not_both b f.numbers f.mid p.0 e p.1 f.earlier f.is_nonempty f.error_here
  valid_not_both (field_types.Submessage m) (bytes b) e p f = submessage.not_both m b e p f
  valid_not_both _ _ _ p f = absurd f

  invalid_same : (s : FieldType) (x : Contents) (e f : DecodeError) → IsInvalidContents SubmessageError s x e → IsInvalidContents SubmessageError s x f → e ≡ f
  invalid_same field_types.Text (bytes b) errors.Utf8 errors.Utf8 p q = refl
  invalid_same field_types.Text (bytes b) errors.Utf8 _ p q = absurd q
  invalid_same field_types.Text (bytes b) _ _ p q = absurd p
  invalid_same field_types.Numbers (bytes b) e f p q = packed_error b p.numbers q.numbers p.mid q.mid e f p.earlier q.earlier p.error_here q.error_here
  invalid_same (field_types.Submessage m) (bytes b) e f p q = submessage.error m b e f p q
  invalid_same _ _ _ _ p q = absurd p

  -- ---- messages

  module _ (m : Message) where
    empty_field : (bs : List ℕ) (p : FieldValue) (r : List ℕ) → bs ≡ [] → FieldAt m bs p r → ⊥
    empty_field bs p r e f = let a = ap length e in let b = field_shorter m bs p r f in omega (arith, a, b)

    pub fields_same : (bs : List ℕ) (ps qs : List FieldValue) → FieldsWith Submessage m bs ps [] → FieldsWith Submessage m bs qs [] → ps ≡ qs
    fields_same bs [] [] p q = refl
    fields_same bs [] (x ∷ qs) p q = absurd (empty_field bs x q.0 p q.1)
    fields_same bs (x ∷ ps) [] p q = absurd (empty_field bs x p.0 q p.1)
    fields_same bs (x ∷ ps) (y ∷ qs) p q =
        let e = field_same m bs x y p.0 q.0 p.1 q.1 in
        let t = fields_same q.0 ps qs (subst (λ (z : List ℕ). FieldsWith Submessage m z ps []) e.1 p.3) q.3 in
        ap (λ (z : FieldValue). z ∷ ps) e.0 ∙ ap (λ (z : List FieldValue). y ∷ z) t

    here_not_both : (bs : List ℕ) (x : FieldValue) (r : List ℕ) (e : DecodeError) → FieldAt m bs x r → IsValidContents Submessage (field_type m x.field_number) x.contents → FieldError m bs e ⊎ FieldContentsError (IsInvalidContents SubmessageError) m bs e → ⊥
    here_not_both bs x r e f valid (inl g) = field_not_both m bs x r e f g
    here_not_both bs x r e f valid (inr g) =
        let s = field_same m bs x g.field r g.rest f g.reads in
        valid_not_both (field_type m g.field.field_number) g.field.contents e (subst (λ (z : FieldValue). IsValidContents Submessage (field_type m z.field_number) z.contents) s.0 valid) g.error

    here_error : (bs : List ℕ) (e f : DecodeError) → FieldError m bs e ⊎ FieldContentsError (IsInvalidContents SubmessageError) m bs e → FieldError m bs f ⊎ FieldContentsError (IsInvalidContents SubmessageError) m bs f → e ≡ f
    here_error bs e f (inl p) (inl q) = field_error m bs e f p q
    here_error bs e f (inl p) (inr q) = absurd (field_not_both m bs q.field q.rest e q.reads p)
    here_error bs e f (inr p) (inl q) = absurd (field_not_both m bs p.field p.rest f p.reads q)
    here_error bs e f (inr p) (inr q) =
        let s = field_same m bs p.field q.field p.rest q.rest p.reads q.reads in
        invalid_same (field_type m q.field.field_number) q.field.contents e f (subst (λ (z : FieldValue). IsInvalidContents SubmessageError (field_type m z.field_number) z.contents e) s.0 p.error) q.error

    fields_not_both : (bs : List ℕ) (ps qs : List FieldValue) (mid : List ℕ) (e : DecodeError) → FieldsWith Submessage m bs ps [] → FieldsWith Submessage m bs qs mid → 0 < length mid → FieldError m mid e ⊎ FieldContentsError (IsInvalidContents SubmessageError) m mid e → ⊥
    fields_not_both bs [] [] mid e p q i f = let a = ap length (sym q ∙ p) in omega (arith, a, i)
    fields_not_both bs (x ∷ ps) [] mid e p q i f = here_not_both bs x p.0 e p.1 p.2 (subst (λ (z : List ℕ). FieldError m z e ⊎ FieldContentsError (IsInvalidContents SubmessageError) m z e) (sym q) f)
    fields_not_both bs [] (y ∷ qs) mid e p q i f = empty_field bs y q.0 p q.1
    fields_not_both bs (x ∷ ps) (y ∷ qs) mid e p q i f =
        let s = field_same m bs x y p.0 q.0 p.1 q.1 in
        fields_not_both q.0 ps qs mid e (subst (λ (z : List ℕ). FieldsWith Submessage m z ps []) s.1 p.3) q.3 i f

    fields_error : (bs : List ℕ) (ps qs : List FieldValue) (x y : List ℕ) (e f : DecodeError) → FieldsWith Submessage m bs ps x → FieldsWith Submessage m bs qs y → FieldError m x e ⊎ FieldContentsError (IsInvalidContents SubmessageError) m x e → FieldError m y f ⊎ FieldContentsError (IsInvalidContents SubmessageError) m y f → e ≡ f
    fields_error bs [] [] x y e f p q g h = here_error x e f g (subst (λ (z : List ℕ). FieldError m z f ⊎ FieldContentsError (IsInvalidContents SubmessageError) m z f) (sym q ∙ p) h)
    fields_error bs [] (b ∷ qs) x y e f p q g h = absurd (here_not_both bs b q.0 e q.1 q.2 (subst (λ (z : List ℕ). FieldError m z e ⊎ FieldContentsError (IsInvalidContents SubmessageError) m z e) (sym p) g))
    fields_error bs (a ∷ ps) [] x y e f p q g h = absurd (here_not_both bs a p.0 f p.1 p.2 (subst (λ (z : List ℕ). FieldError m z f ⊎ FieldContentsError (IsInvalidContents SubmessageError) m z f) (sym q) h))
    fields_error bs (a ∷ ps) (b ∷ qs) x y e f p q g h =
        let s = field_same m bs a b p.0 q.0 p.1 q.1 in
        fields_error q.0 ps qs x y e f (subst (λ (z : List ℕ). FieldsWith Submessage m z ps x) s.1 p.3) q.3 g h

    pub message_not_both : (bs : List ℕ) (ps : List FieldValue) (e : DecodeError) → FieldsWith Submessage m bs ps [] → MessageErrorWith Submessage (IsInvalidContents SubmessageError) m bs e → ⊥
    message_not_both bs ps e p f = fields_not_both bs ps f.fields f.mid e p f.earlier f.is_nonempty f.error_here

    pub message_error : (bs : List ℕ) (e f : DecodeError) → MessageErrorWith Submessage (IsInvalidContents SubmessageError) m bs e → MessageErrorWith Submessage (IsInvalidContents SubmessageError) m bs f → e ≡ f
    message_error bs e f p q = fields_error bs p.fields q.fields p.mid q.mid e f p.earlier q.earlier p.error_here q.error_here

no_nested_message : UniqueSubmessage NoNestedMessage NoNestedMessageError
no_nested_message = record { not_both = λ m bs e p f. p; error = λ m bs e f p q. absurd p }

pub leaf_same : (m : Message) (bs : List ℕ) (ps qs : List FieldValue) → IsLeaf m bs ps → IsLeaf m bs qs → ps ≡ qs
leaf_same m bs ps qs p q = fields_same NoNestedMessage NoNestedMessageError no_nested_message m bs ps qs p q

leaves : UniqueSubmessage IsAnyLeaf LeafError
leaves = record {
  not_both = λ m bs e p f. message_not_both NoNestedMessage NoNestedMessageError no_nested_message m bs p.0 e p.1 f;
  error = λ m bs e f p q. message_error NoNestedMessage NoNestedMessageError no_nested_message m bs e f p q;
}

pub file_same : (bs : List ℕ) (ps qs : List FieldValue) → IsFileMessage bs ps → IsFileMessage bs qs → ps ≡ qs
file_same bs ps qs p q = fields_same IsAnyLeaf LeafError leaves messages.File bs ps qs p q

pub file_not_both : (bs : List ℕ) (ps : List FieldValue) (e : DecodeError) → IsFileMessage bs ps → FileMessageError bs e → ⊥
file_not_both bs ps e p f = message_not_both IsAnyLeaf LeafError leaves messages.File bs ps e p f

pub file_error : (bs : List ℕ) (e f : DecodeError) → FileMessageError bs e → FileMessageError bs f → e ≡ f
file_error bs e f p q = message_error IsAnyLeaf LeafError leaves messages.File bs e f p q
