-- Consecutive fields, and their values.
use Rattle.std.proofs.Common.{◌≡◌, ℕ, ◌<◌, ◌≤◌, ◌⊎◌, inl, inr, List, [], ◌∷◌, ◌++◌, length, map, refl, ap, sym, ◌∙◌, subst, arith, append_assoc}
use Rattle.std.proofs.lemmas.List.Concat.{flat_map-append}
use Rattle.std.proofs.lemmas.List.{map-append}
use Rattle.perfdata_sections.specs.declared.decode_error.DecodeError.{DecodeError}
use Rattle.perfdata_sections.specs.declared.decode_error.DecodeError.TheVariants as errors
use Rattle.perfdata_simpleperf.specs.declared.protobuf.field.Message.{Message}
use Rattle.perfdata_simpleperf.specs.declared.protobuf.wire.WireType.{WireType}
use Rattle.perfdata_simpleperf.specs.declared.protobuf.wire.WireType.TheVariants as wires
use Rattle.std.proofs.Common.{Bool, true, false, cond}
use Rattle.std.specs.Prelude.{◌==◌, Result, Ok, Err, IfErr}
use Rattle.perfdata_simpleperf.specs.declared.protobuf.field.Message.TheVariants as messages
use Rattle.perfdata_simpleperf.specs.declared.protobuf.field.FieldType.TheVariants as field_types
use Rattle.perfdata_simpleperf.specs.Protobuf.WireFormat.{Contents, number, bytes, skipped, NumberAt}
use Rattle.perfdata_simpleperf.specs.Protobuf.Groups.{GroupItems, no_items, item_then}
use Rattle.perfdata_simpleperf.specs.Protobuf.Fields.{FieldValue, field_type, FieldAt, ContentsAt}
use Rattle.perfdata_simpleperf.specs.Protobuf.Messages.{IsValidContents, IsInvalidContents, FieldsWith, MessageErrorWith, BeginsWithNumber, NeedsMemory, MessageNeedsMemory, NumbersAt, NoNestedMessage}
use Rattle.perfdata_simpleperf.specs.FileRecord.{SymbolValue}
use Rattle.perfdata_simpleperf.specs.Protobuf.Values.{numbers_of, numbers_in, texts_of, texts_in, last_or, low_u32, symbol_from, AreOffsets, contents_of, contents_in}
use Rattle.perfdata_simpleperf.proofs.Decoding.GroupSteps.{key_shorter, value_shorter, item_shorter}

module _ (Submessage : Message → List ℕ → Type 0) (message : Message) where
  pub fields_then : (bs : List ℕ) (ps : List FieldValue) (mid : List ℕ) (p : FieldValue) (rest : List ℕ) → FieldsWith Submessage message bs ps mid → FieldAt message mid p rest → IsValidContents Submessage (field_type message p.field_number) p.contents → FieldsWith Submessage message bs (ps ++ p ∷ []) rest
  fields_then bs [] mid p rest before at valid = (rest, subst (λ (x : List ℕ). FieldAt message x p rest) (sym before) at, valid, refl)
  fields_then bs (q ∷ ps) mid p rest before at valid = (before.0, before.1, before.2, fields_then before.0 ps mid p rest before.3 at valid)

pub items_le : {open_groups bs inner rest : List ℕ} → GroupItems open_groups bs inner rest → length rest ≤ length bs
items_le no_items = omega arith
items_le (item_then t ts) = let a = item_shorter t in let b = items_le ts in omega (arith, a, b)

contents_at_shorter : (wire : WireType) (n : ℕ) (bs : List ℕ) (x : Contents) (rest : List ℕ) → ContentsAt wire n bs x rest → length rest ≤ length bs
contents_at_shorter wires.StartGroup n bs skipped rest h = items_le h
contents_at_shorter wires.StartGroup n bs (number k) rest h = absurd h
contents_at_shorter wires.StartGroup n bs (bytes k) rest h = absurd h
contents_at_shorter wires.EndGroup n bs x rest h = value_shorter wires.EndGroup bs x rest h
contents_at_shorter wires.Varint n bs x rest h = value_shorter wires.Varint bs x rest h
contents_at_shorter wires.Fixed64 n bs x rest h = value_shorter wires.Fixed64 bs x rest h
contents_at_shorter wires.Fixed32 n bs x rest h = value_shorter wires.Fixed32 bs x rest h
contents_at_shorter wires.LengthDelimited n bs x rest h = value_shorter wires.LengthDelimited bs x rest h

pub field_shorter : (message : Message) (bs : List ℕ) (p : FieldValue) (rest : List ℕ) → FieldAt message bs p rest → length rest < length bs
field_shorter message bs p rest at =
    let k = key_shorter bs p.field_number at.wire_type at.mid at.key in
    let h = contents_at_shorter at.wire_type p.field_number at.mid p.contents rest at.contents_at in
    omega (arith, k, h)

-- ---- values

pub last_or-append : {A : Type 0} (d : A) (xs ys : List A) → last_or (last_or d xs) ys ≡ last_or d (xs ++ ys)
last_or-append d [] ys = refl
last_or-append d (x ∷ xs) ys = last_or-append x xs ys

pub numbers_of-append : (k : ℕ) (ps qs : List FieldValue) → numbers_of k (ps ++ qs) ≡ numbers_of k ps ++ numbers_of k qs
numbers_of-append k ps qs = flat_map-append (numbers_in k) ps qs

pub texts_of-append : (k : ℕ) (ps qs : List FieldValue) → texts_of k (ps ++ qs) ≡ texts_of k ps ++ texts_of k qs
texts_of-append k ps qs = flat_map-append (texts_in k) ps qs

pub last_number : (d k : ℕ) (ps qs : List FieldValue) → last_or (last_or d (numbers_of k ps)) (numbers_of k qs) ≡ last_or d (numbers_of k (ps ++ qs))
last_number d k ps qs = last_or-append d (numbers_of k ps) (numbers_of k qs) ∙ ap (λ (xs : List ℕ). last_or d xs) (sym (numbers_of-append k ps qs))

pub last_low : (d k : ℕ) (ps qs : List FieldValue) → last_or (last_or d (map low_u32 (numbers_of k ps))) (map low_u32 (numbers_of k qs)) ≡ last_or d (map low_u32 (numbers_of k (ps ++ qs)))
last_low d k ps qs = last_or-append d (map low_u32 (numbers_of k ps)) (map low_u32 (numbers_of k qs)) ∙ ap (λ (xs : List ℕ). last_or d xs) (sym (ap (λ (xs : List ℕ). map low_u32 xs) (numbers_of-append k ps qs) ∙ map-append low_u32 (numbers_of k ps) (numbers_of k qs)))

pub last_text : (d : List ℕ) (k : ℕ) (ps qs : List FieldValue) → last_or (last_or d (texts_of k ps)) (texts_of k qs) ≡ last_or d (texts_of k (ps ++ qs))
last_text d k ps qs = last_or-append d (texts_of k ps) (texts_of k qs) ∙ ap (λ (xs : List (List ℕ)). last_or d xs) (sym (texts_of-append k ps qs))

pub symbol_more : (s : SymbolValue) (ps qs : List FieldValue) → symbol_from (symbol_from s ps) qs ≡ symbol_from s (ps ++ qs)
symbol_more s ps qs = rw (last_number s.vaddr 1 ps qs, last_low s.len 2 ps qs, last_text s.name 3 ps qs) refl

module _ (Submessage : Message → List ℕ → Type 0) (SubmessageError : Message → List ℕ → DecodeError → Type 0) (SubmessageNeeds : Message → List ℕ → Type 0) (message : Message) where
  pub contents_error : (bs : List ℕ) (ps : List FieldValue) (mid : List ℕ) (p : FieldValue) (rest : List ℕ) (e : DecodeError) → FieldsWith Submessage message bs ps mid → FieldAt message mid p rest
      → ((e ≡ errors.Memory) × NeedsMemory SubmessageNeeds (field_type message p.field_number) p.contents) ⊎ IsInvalidContents SubmessageError (field_type message p.field_number) p.contents e
      → ((e ≡ errors.Memory) × MessageNeedsMemory Submessage SubmessageNeeds message bs) ⊎ MessageErrorWith Submessage (IsInvalidContents SubmessageError) message bs e
  contents_error bs ps mid p rest e before at (inl memory) = inl (memory.0, record { fields = ps; mid = mid; earlier = before; field = p; rest = rest; reads = at; needs = memory.1 })
  contents_error bs ps mid p rest e before at (inr invalid) = inr record { fields = ps; mid = mid; earlier = before; is_nonempty = (let s = field_shorter message mid p rest at in omega (arith, s)); error_here = inr record { field = p; rest = rest; reads = at; error = invalid } }

-- numbers, and one more
pub begins_with_number : (bs ns mid : List ℕ) (n : ℕ) (rest : List ℕ) → NumbersAt bs ns mid → NumberAt mid n rest → BeginsWithNumber bs
begins_with_number bs [] mid n rest before at = (n, rest, subst (λ (x : List ℕ). NumberAt x n rest) (sym before) at)
begins_with_number bs (m ∷ ns) mid n rest before at = (m, before.0, before.1)

-- an error without the cause of an allocation failure
pub without_cause : {A : Type 0} (r : Result A DecodeError) (P : Type 0) (Q : DecodeError → Type 0) → IfErr r (λ e. ((e ≡ errors.Memory) × P) ⊎ Q e) → IfErr r (λ e. (e ≡ errors.Memory) ⊎ Q e)
without_cause (Ok a) P Q error = tt
without_cause (Err e) P Q error = elim error [ inl memory ↦ inl memory.0 | inr other ↦ inr other ]

pub numbers_then : (bs ns mid : List ℕ) (n : ℕ) (rest : List ℕ) → NumbersAt bs ns mid → NumberAt mid n rest → NumbersAt bs (ns ++ n ∷ []) rest
numbers_then bs [] mid n rest before at = (rest, subst (λ (x : List ℕ). NumberAt x n rest) (sym before) at, refl)
numbers_then bs (m ∷ ns) mid n rest before at = (before.0, before.1, numbers_then before.0 ns mid n rest before.2 at)

pub offsets_append : (xs ys : List Contents) (a b : List ℕ) → AreOffsets xs a → AreOffsets ys b → AreOffsets (xs ++ ys) (a ++ b)
offsets_append [] ys a b p q = rw p q
offsets_append (x ∷ xs) ys a b p q = (p.0, p.1 ++ b, p.2, offsets_append xs ys p.1 b p.3 q, rw p.4 (append_assoc p.0 p.1 b))

pub contents-append : (k : ℕ) (ps qs : List FieldValue) → contents_of k (ps ++ qs) ≡ contents_of k ps ++ contents_of k qs
contents-append k ps qs = flat_map-append (contents_in k) ps qs

pub offsets_more : (k : ℕ) (ps qs : List FieldValue) (a b : List ℕ) → AreOffsets (contents_of k ps) a → AreOffsets (contents_of k qs) b → AreOffsets (contents_of k (ps ++ qs)) (a ++ b)
offsets_more k ps qs a b p q = subst (λ (x : List Contents). AreOffsets x (a ++ b)) (sym (contents-append k ps qs)) (offsets_append (contents_of k ps) (contents_of k qs) a b p q)

-- the contents of a field of an address message are always valid
valid_if : (b : Bool) (x : Contents) → IsValidContents NoNestedMessage (cond b field_types.Number field_types.Unknown) x
valid_if true x = tt
valid_if false x = tt

pub address_valid : (n : ℕ) (x : Contents) → IsValidContents NoNestedMessage (field_type messages.Address n) x
address_valid n x = valid_if (n == 1) x
