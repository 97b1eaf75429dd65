-- A key, a value, an item and a group at the start of bytes can be decoded in at most one way.
use Rattle.std.proofs.Common.{◌≡◌, ℕ, zero, suc, ◌<◌, ◌≤◌, ◌⊎◌, inl, inr, List, [], ◌∷◌, ◌++◌, length, refl, ap, sym, ◌∙◌, subst, arith, length-append}
use Rattle.perfdata_sections.specs.declared.decode_error.DecodeError.{DecodeError}
use Rattle.perfdata_sections.specs.declared.decode_error.DecodeError.TheVariants as errors
use Rattle.perfdata_simpleperf.specs.declared.protobuf.wire.WireType.{WireType}
use Rattle.perfdata_simpleperf.specs.declared.protobuf.wire.WireType.TheVariants as wires
use Rattle.perfdata_simpleperf.specs.Protobuf.WireFormat.{TruncatedVarint, OverlongVarint, wire_code, KeyAt, KeyError, IsBadKey, IsBadWireType, Contents, number, bytes, skipped, Splits, LengthAt, TruncatedLengthDelimited, FixedAt, FixedError, ValueAt, ValueError}
use Rattle.perfdata_simpleperf.specs.Protobuf.Groups.{SkipsItem, GroupItem, GroupItems, no_items, item_then, SkipItemError, GroupItemError, GroupAt, GroupError}
use Rattle.perfdata_simpleperf.proofs.Decoding.NumberUniqueness.{IsUnique, number_same, number_is_unique, number_not_truncated, number_not_overlong, truncated_or_overlong}

-- ---- keys

pub wire_of : ℕ → WireType
wire_of zero = wires.Varint
wire_of (suc zero) = wires.Fixed64
wire_of (suc (suc zero)) = wires.LengthDelimited
wire_of (suc (suc (suc zero))) = wires.StartGroup
wire_of (suc (suc (suc (suc zero)))) = wires.EndGroup
wire_of (suc (suc (suc (suc (suc n))))) = wires.Fixed32

wire_back : (w : WireType) → wire_of (wire_code w) ≡ w
unfolding wire_of
wire_back wires.Varint = refl
wire_back wires.Fixed64 = refl
wire_back wires.LengthDelimited = refl
wire_back wires.StartGroup = refl
wire_back wires.EndGroup = refl
wire_back wires.Fixed32 = refl

pub code_back : (code : ℕ) → code ≤ 5 → wire_code (wire_of code) ≡ code
unfolding wire_of
code_back zero le = refl
code_back (suc zero) le = refl
code_back (suc (suc zero)) le = refl
code_back (suc (suc (suc zero))) le = refl
code_back (suc (suc (suc (suc zero)))) le = refl
code_back (suc (suc (suc (suc (suc n))))) le = omega (arith, le)

code_small : (w : WireType) → wire_code w ≤ 5
code_small wires.Varint = omega arith
code_small wires.Fixed64 = omega arith
code_small wires.LengthDelimited = omega arith
code_small wires.StartGroup = omega arith
code_small wires.EndGroup = omega arith
code_small wires.Fixed32 = omega arith

pub key_same : (bs : List ℕ) (a b : ℕ) (w v : WireType) (r s : List ℕ) → KeyAt bs a w r → KeyAt bs b v s → (a ≡ b) × (w ≡ v) × (r ≡ s)
key_same bs a b w v r s p q =
    let e = number_same bs _ _ r s p.reads q.reads in
    let x = code_small w in
    let y = code_small v in
    let c : wire_code w ≡ wire_code v = omega (arith, e.0, x, y) in
    (omega (arith, e.0, x, y), sym (wire_back w) ∙ ap wire_of c ∙ wire_back v, e.1)

pub key_not_both : (bs : List ℕ) (a : ℕ) (w : WireType) (r : List ℕ) (e : DecodeError) → KeyAt bs a w r → KeyError bs e → ⊥
key_not_both bs a w r errors.Truncated p f = number_not_truncated bs _ r p.reads f
key_not_both bs a w r errors.Varint p f = number_not_overlong bs _ r p.reads f
key_not_both bs a w r errors.Key p f =
    let e = number_same bs _ _ r f.rest p.reads f.reads in
    let small = p.in_range in
    let positive = p.positive in
    elim f.error [ inl high ↦ omega (arith, e.0, small, high) | inr low ↦ omega (arith, e.0, positive, low) ]
key_not_both bs a w r errors.WireType p f =
    let e = number_same bs _ _ r f.rest p.reads f.reads in
    let x = code_small w in
    omega (arith, e.0, x, f.error.1)
key_not_both bs a w r _ p f = f

bad_both : (c d : ℕ) → c ≡ d → IsBadKey c → IsBadWireType d → ⊥
bad_both c d e (inl high) w = omega (arith, e, high, w.0)
bad_both c d e (inr low) w = omega (arith, e, low, w.1)

pub key_error : (bs : List ℕ) (e f : DecodeError) → KeyError bs e → KeyError bs f → e ≡ f
key_error bs errors.Truncated errors.Truncated p q = refl
key_error bs errors.Truncated errors.Varint p q = absurd (truncated_or_overlong bs p q)
key_error bs errors.Truncated errors.Key p q = absurd (number_not_truncated bs q.code q.rest q.reads p)
key_error bs errors.Truncated errors.WireType p q = absurd (number_not_truncated bs q.code q.rest q.reads p)
key_error bs errors.Truncated _ p q = absurd q
key_error bs errors.Varint errors.Truncated p q = absurd (truncated_or_overlong bs q p)
key_error bs errors.Varint errors.Varint p q = refl
key_error bs errors.Varint errors.Key p q = absurd (number_not_overlong bs q.code q.rest q.reads p)
key_error bs errors.Varint errors.WireType p q = absurd (number_not_overlong bs q.code q.rest q.reads p)
key_error bs errors.Varint _ p q = absurd q
key_error bs errors.Key errors.Truncated p q = absurd (number_not_truncated bs p.code p.rest p.reads q)
key_error bs errors.Key errors.Varint p q = absurd (number_not_overlong bs p.code p.rest p.reads q)
key_error bs errors.Key errors.Key p q = refl
key_error bs errors.Key errors.WireType p q = absurd (bad_both p.code q.code (number_same bs p.code q.code p.rest q.rest p.reads q.reads).0 p.error q.error)
key_error bs errors.Key _ p q = absurd q
key_error bs errors.WireType errors.Truncated p q = absurd (number_not_truncated bs p.code p.rest p.reads q)
key_error bs errors.WireType errors.Varint p q = absurd (number_not_overlong bs p.code p.rest p.reads q)
key_error bs errors.WireType errors.Key p q = absurd (bad_both q.code p.code (number_same bs q.code p.code q.rest p.rest q.reads p.reads).0 q.error p.error)
key_error bs errors.WireType errors.WireType p q = refl
key_error bs errors.WireType _ p q = absurd q
key_error bs _ _ p q = absurd p

-- ---- values

pub prefix_same : (f g r s : List ℕ) → length f ≡ length g → f ++ r ≡ g ++ s → (f ≡ g) × (r ≡ s)
prefix_same [] [] r s l e = (refl, e)
prefix_same [] (b ∷ g) r s l e = absurd (omega (arith, l))
prefix_same (a ∷ f) [] r s l e = absurd (omega (arith, l))
prefix_same (a ∷ f) (b ∷ g) r s l e =
    let first : a ≡ b = cc in
    let others : f ++ r ≡ g ++ s = cc in
    let t = prefix_same f g r s (omega (arith, l)) others in
    (ap (λ (x : ℕ). x ∷ f) first ∙ ap (λ (x : List ℕ). b ∷ x) t.0, t.1)

pub splits_same : (bs : List ℕ) (len : ℕ) (f g r s : List ℕ) → Splits bs len f r → Splits bs len g s → (f ≡ g) × (r ≡ s)
splits_same bs len f g r s p q = prefix_same f g r s (p.exact_len ∙ sym q.exact_len) (sym p.split ∙ q.split)

length_same : (bs f g r s : List ℕ) → LengthAt bs f r → LengthAt bs g s → (f ≡ g) × (r ≡ s)
length_same bs f g r s p q =
    let e = number_same bs p.len q.len p.mid q.mid p.reads q.reads in
    let moved : Splits q.mid q.len f r = subst (λ (m : List ℕ). Splits m q.len f r) e.1 (subst (λ (n : ℕ). Splits p.mid n f r) e.0 p.splits) in
    splits_same q.mid q.len f g r s moved q.splits

fixed_same : (bs : List ℕ) (len : ℕ) (r s : List ℕ) → FixedAt bs len r → FixedAt bs len s → r ≡ s
fixed_same bs len r s p q = (splits_same bs len p.prefix q.prefix r s p.splits q.splits).1

value_same : (w : WireType) (bs : List ℕ) (x y : Contents) (r s : List ℕ) → ValueAt w bs x r → ValueAt w bs y s → (x ≡ y) × (r ≡ s)
value_same wires.Varint bs (number n) (number m) r s p q = let e = number_same bs n m r s p q in (ap number e.0, e.1)
value_same wires.Varint bs (number n) _ r s p q = absurd q
value_same wires.Varint bs _ _ r s p q = absurd p
value_same wires.Fixed64 bs skipped skipped r s p q = (refl, fixed_same bs 8 r s p q)
value_same wires.Fixed64 bs skipped _ r s p q = absurd q
value_same wires.Fixed64 bs _ _ r s p q = absurd p
value_same wires.Fixed32 bs skipped skipped r s p q = (refl, fixed_same bs 4 r s p q)
value_same wires.Fixed32 bs skipped _ r s p q = absurd q
value_same wires.Fixed32 bs _ _ r s p q = absurd p
value_same wires.LengthDelimited bs (bytes f) (bytes g) r s p q = let e = length_same bs f g r s p q in (ap bytes e.0, e.1)
value_same wires.LengthDelimited bs (bytes f) _ r s p q = absurd q
value_same wires.LengthDelimited bs _ _ r s p q = absurd p
value_same _ bs _ _ r s p q = absurd p

fixed_not_both : (bs : List ℕ) (len : ℕ) (r : List ℕ) (e : DecodeError) → FixedAt bs len r → FixedError len bs e → ⊥
fixed_not_both bs len r errors.Truncated p f = let a = ap length p.splits.split in let b = length-append p.prefix r in let l = p.splits.exact_len in omega (arith, a, b, l, f)
fixed_not_both bs len r _ p f = f

length_not_truncated : (bs f r : List ℕ) → LengthAt bs f r → TruncatedLengthDelimited bs → ⊥
length_not_truncated bs f r p q =
    let e = number_same bs p.len q.len p.mid q.mid p.reads q.reads in
    let a = ap length p.splits.split in
    let b = length-append f r in
    let m = ap length e.1 in
    let l = p.splits.exact_len in
    let s = q.too_few in
    omega (arith, a, b, m, l, s, e.0)

value_not_both : (w : WireType) (bs : List ℕ) (x : Contents) (r : List ℕ) (e : DecodeError) → ValueAt w bs x r → ValueError w bs e → ⊥
value_not_both wires.Varint bs (number n) r e p f = (number_is_unique bs).not_both n r e p f
value_not_both wires.Fixed64 bs skipped r e p f = fixed_not_both bs 8 r e p f
value_not_both wires.Fixed32 bs skipped r e p f = fixed_not_both bs 4 r e p f
value_not_both wires.LengthDelimited bs (bytes b) r errors.Truncated p (inl f) = number_not_truncated bs p.len p.mid p.reads f
value_not_both wires.LengthDelimited bs (bytes b) r errors.Truncated p (inr f) = length_not_truncated bs b r p f
value_not_both wires.LengthDelimited bs (bytes b) r errors.Varint p f = number_not_overlong bs p.len p.mid p.reads f
value_not_both wires.LengthDelimited bs (bytes b) r _ p f = f
value_not_both _ bs _ r e p f = absurd p

fixed_error : (len : ℕ) (bs : List ℕ) (e f : DecodeError) → FixedError len bs e → FixedError len bs f → e ≡ f
fixed_error len bs errors.Truncated errors.Truncated p q = refl
fixed_error len bs errors.Truncated _ p q = absurd q
fixed_error len bs _ _ p q = absurd p

length_truncated_or_overlong : (bs : List ℕ) → TruncatedVarint 10 bs ⊎ TruncatedLengthDelimited bs → OverlongVarint 10 bs → ⊥
length_truncated_or_overlong bs (inl c) l = truncated_or_overlong bs c l
length_truncated_or_overlong bs (inr c) l = number_not_overlong bs c.len c.mid c.reads l

length_error : (bs : List ℕ) (e f : DecodeError) → ValueError wires.LengthDelimited bs e → ValueError wires.LengthDelimited bs f → e ≡ f
length_error bs errors.Truncated errors.Truncated p q = refl
length_error bs errors.Truncated errors.Varint p q = absurd (length_truncated_or_overlong bs p q)
length_error bs errors.Truncated _ p q = absurd q
length_error bs errors.Varint errors.Truncated p q = absurd (length_truncated_or_overlong bs q p)
length_error bs errors.Varint errors.Varint p q = refl
length_error bs errors.Varint _ p q = absurd q
length_error bs _ _ p q = absurd p

value_error : (w : WireType) (bs : List ℕ) (e f : DecodeError) → ValueError w bs e → ValueError w bs f → e ≡ f
value_error wires.Varint bs e f p q = (number_is_unique bs).error e f p q
value_error wires.Fixed64 bs e f p q = fixed_error 8 bs e f p q
value_error wires.Fixed32 bs e f p q = fixed_error 4 bs e f p q
value_error wires.LengthDelimited bs e f p q = length_error bs e f p q
value_error wires.StartGroup bs e f p q = absurd p
value_error wires.EndGroup bs e f p q = absurd p

pub contents_is_unique : (w : WireType) (bs : List ℕ) → IsUnique Contents (ValueAt w bs) (ValueError w bs)
contents_is_unique w bs = record { value = value_same w bs; not_both = value_not_both w bs; error = value_error w bs }

-- ---- items

last_same : (n : ℕ) (x y : List ℕ) → x ++ n ∷ [] ≡ y ++ n ∷ [] → x ≡ y
last_same n x y e =
    let a = length-append x (n ∷ []) in
    let b = length-append y (n ∷ []) in
    let l = ap length e in
    (prefix_same x y (n ∷ []) (n ∷ []) (omega (arith, a, b, l)) e).0

plain_same : (w : WireType) (open_groups bs x y r s : List ℕ) → (open_groups ≡ x) × (c : Contents) × ValueAt w bs c r → (open_groups ≡ y) × (c : Contents) × ValueAt w bs c s → (x ≡ y) × (r ≡ s)
plain_same w open_groups bs x y r s p q = (sym p.0 ∙ q.0, (value_same w bs p.1 q.1 r s p.2 q.2).1)

skip_item_same : (w : WireType) (n : ℕ) (open_groups bs x y r s : List ℕ) → SkipsItem w n open_groups bs x r → SkipsItem w n open_groups bs y s → (x ≡ y) × (r ≡ s)
skip_item_same wires.StartGroup n open_groups bs x y r s p q = (p.1 ∙ sym q.1, sym p.2 ∙ q.2)
skip_item_same wires.EndGroup n open_groups bs x y r s p q = (last_same n x y (sym p.0 ∙ q.0), sym p.1 ∙ q.1)
skip_item_same wires.Varint n open_groups bs x y r s p q = plain_same wires.Varint open_groups bs x y r s p q
skip_item_same wires.Fixed64 n open_groups bs x y r s p q = plain_same wires.Fixed64 open_groups bs x y r s p q
skip_item_same wires.Fixed32 n open_groups bs x y r s p q = plain_same wires.Fixed32 open_groups bs x y r s p q
skip_item_same wires.LengthDelimited n open_groups bs x y r s p q = plain_same wires.LengthDelimited open_groups bs x y r s p q

skip_item_not_both : (w : WireType) (n : ℕ) (open_groups bs x r : List ℕ) (e : DecodeError) → SkipsItem w n open_groups bs x r → SkipItemError w n open_groups bs e → ⊥
skip_item_not_both wires.StartGroup n open_groups bs x r errors.Depth p f = omega (arith, p.0, f)
skip_item_not_both wires.StartGroup n open_groups bs x r _ p f = f
skip_item_not_both wires.EndGroup n open_groups bs x r errors.Group p f = f x p.0
skip_item_not_both wires.EndGroup n open_groups bs x r _ p f = f
skip_item_not_both wires.Varint n open_groups bs x r e p f = value_not_both wires.Varint bs p.1 r e p.2 f
skip_item_not_both wires.Fixed64 n open_groups bs x r e p f = value_not_both wires.Fixed64 bs p.1 r e p.2 f
skip_item_not_both wires.Fixed32 n open_groups bs x r e p f = value_not_both wires.Fixed32 bs p.1 r e p.2 f
skip_item_not_both wires.LengthDelimited n open_groups bs x r e p f = value_not_both wires.LengthDelimited bs p.1 r e p.2 f

skip_item_error : (w : WireType) (n : ℕ) (open_groups bs : List ℕ) (e f : DecodeError) → SkipItemError w n open_groups bs e → SkipItemError w n open_groups bs f → e ≡ f
skip_item_error wires.StartGroup n open_groups bs errors.Depth errors.Depth p q = refl
skip_item_error wires.StartGroup n open_groups bs errors.Depth _ p q = absurd q
skip_item_error wires.StartGroup n open_groups bs _ _ p q = absurd p
skip_item_error wires.EndGroup n open_groups bs errors.Group errors.Group p q = refl
skip_item_error wires.EndGroup n open_groups bs errors.Group _ p q = absurd q
skip_item_error wires.EndGroup n open_groups bs _ _ p q = absurd p
skip_item_error wires.Varint n open_groups bs e f p q = value_error wires.Varint bs e f p q
skip_item_error wires.Fixed64 n open_groups bs e f p q = value_error wires.Fixed64 bs e f p q
skip_item_error wires.Fixed32 n open_groups bs e f p q = value_error wires.Fixed32 bs e f p q
skip_item_error wires.LengthDelimited n open_groups bs e f p q = value_error wires.LengthDelimited bs e f p q

-- a fact on what follows a key holds for every decoding of the key
module _ (P : ℕ → WireType → List ℕ → Type 0) where
  pub moved : (bs : List ℕ) (a b : ℕ) (w v : WireType) (r s : List ℕ) → KeyAt bs a w r → KeyAt bs b v s → P a w r → P b v s
  moved bs a b w v r s p q h =
      let e = key_same bs a b w v r s p q in
      subst (λ (x : List ℕ). P b v x) e.2 (subst (λ (x : WireType). P b x r) e.1 (subst (λ (x : ℕ). P x w r) e.0 h))

item_same : (open_groups bs x y r s : List ℕ) → GroupItem open_groups bs x r → GroupItem open_groups bs y s → (x ≡ y) × (r ≡ s)
item_same open_groups bs x y r s p q =
    let h = moved (λ n w m. SkipsItem w n open_groups m x r) bs p.field_number q.field_number p.wire_type q.wire_type p.mid q.mid p.key q.key p.skips_item in
    skip_item_same q.wire_type q.field_number open_groups q.mid x y r s h q.skips_item

item_not_both : (open_groups bs x r : List ℕ) (e : DecodeError) → GroupItem open_groups bs x r → GroupItemError open_groups bs e → ⊥
item_not_both open_groups bs x r e p (inl f) = key_not_both bs p.field_number p.wire_type p.mid e p.key f
item_not_both open_groups bs x r e p (inr f) =
    let h = moved (λ n w m. SkipsItem w n open_groups m x r) bs p.field_number f.field_number p.wire_type f.wire_type p.mid f.mid p.key f.key p.skips_item in
    skip_item_not_both f.wire_type f.field_number open_groups f.mid x r e h f.error

item_error : (open_groups bs : List ℕ) (e f : DecodeError) → GroupItemError open_groups bs e → GroupItemError open_groups bs f → e ≡ f
item_error open_groups bs e f (inl p) (inl q) = key_error bs e f p q
item_error open_groups bs e f (inl p) (inr q) = absurd (key_not_both bs q.field_number q.wire_type q.mid e q.key p)
item_error open_groups bs e f (inr p) (inl q) = absurd (key_not_both bs p.field_number p.wire_type p.mid f p.key q)
item_error open_groups bs e f (inr p) (inr q) =
    let h = moved (λ n w m. SkipItemError w n open_groups m e) bs p.field_number q.field_number p.wire_type q.wire_type p.mid q.mid p.key q.key p.error in
    skip_item_error q.wire_type q.field_number open_groups q.mid e f h q.error

-- ---- groups

align : {open_groups bs x y r s c t : List ℕ} → GroupItem open_groups bs x r → GroupItem open_groups bs y s → GroupItems y s c t → GroupItems x r c t
align {open_groups} {bs} {x} {y} {r} {s} {c} {t} p q ts =
    let e = item_same open_groups bs x y r s p q in
    subst (λ (z : List ℕ). GroupItems z r c t) (sym e.0) (subst (λ (z : List ℕ). GroupItems y z c t) (sym e.1) ts)

none_inside : {open_groups bs x r : List ℕ} → open_groups ≡ [] → GroupItem open_groups bs x r → ⊥
none_inside e t = let l = ap length e in let i = t.is_nonempty in omega (arith, l, i)

items_same : {open_groups bs b r c s : List ℕ} → GroupItems open_groups bs b r → GroupItems open_groups bs c s → b ≡ [] → c ≡ [] → r ≡ s
items_same no_items no_items d e = refl
items_same no_items (item_then u us) d e = absurd (none_inside d u)
items_same (item_then t ts) no_items d e = absurd (none_inside e t)
items_same (item_then t ts) (item_then u us) d e = items_same ts (align t u us) d e

items_not_both : {open_groups bs b r c s : List ℕ} (e : DecodeError) → GroupItems open_groups bs b r → GroupItems open_groups bs c s → b ≡ [] → 0 < length c → GroupItemError c s e → ⊥
items_not_both e no_items no_items d i f = let l = ap length d in omega (arith, l, i)
items_not_both e no_items (item_then u us) d i f = none_inside d u
items_not_both {open_groups} {bs} e (item_then {inner = x} {mid = m} t ts) no_items d i f = item_not_both open_groups bs x m e t f
items_not_both e (item_then t ts) (item_then u us) d i f = items_not_both e ts (align t u us) d i f

items_error : {open_groups bs b r c s : List ℕ} (e g : DecodeError) → GroupItems open_groups bs b r → GroupItems open_groups bs c s → GroupItemError b r e → GroupItemError c s g → e ≡ g
items_error {open_groups} {bs} e g no_items no_items p q = item_error open_groups bs e g p q
items_error {open_groups} {bs} e g no_items (item_then {inner = x} {mid = m} u us) p q = absurd (item_not_both open_groups bs x m e u p)
items_error {open_groups} {bs} e g (item_then {inner = x} {mid = m} t ts) no_items p q = absurd (item_not_both open_groups bs x m g t q)
items_error e g (item_then t ts) (item_then u us) p q = items_error e g ts (align t u us) p q

pub group_same : (n : ℕ) (bs r s : List ℕ) → GroupAt n bs r → GroupAt n bs s → r ≡ s
group_same n bs r s p q = items_same p q refl refl

pub group_not_both : (n : ℕ) (bs r : List ℕ) (e : DecodeError) → GroupAt n bs r → GroupError n bs e → ⊥
group_not_both n bs r e p f = items_not_both e p f.earlier refl f.is_nonempty f.error_here

pub group_error : (n : ℕ) (bs : List ℕ) (e f : DecodeError) → GroupError n bs e → GroupError n bs f → e ≡ f
group_error n bs e f p q = items_error e f p.earlier q.earlier p.error_here q.error_here
