-- Bytes begin with a number, a key, a value, an item or a group, or else have an error.
use Rattle.std.proofs.Common.{◌≡◌, ℕ, zero, suc, ◌+◌, ◌*◌, ◌-◌, ◌/◌, ◌%◌, ◌^◌, ◌<◌, ◌≤◌, ◌⊎◌, inl, inr, List, [], ◌∷◌, ◌++◌, length, refl, ap, subst, arith, length-append}
use Rattle.std.proofs.lemmas.Bool.{cases_lt, cases_eq}
use Rattle.std.specs.List.{AllByRecursion}
use Rattle.perfdata_sections.specs.declared.decode_error.DecodeError.{DecodeError}
use Rattle.perfdata_sections.specs.declared.decode_error.DecodeError.TheVariants as errors
use Rattle.perfdata_simpleperf.specs.declared.protobuf.wire.WireType.{WireType}
use Rattle.perfdata_simpleperf.specs.declared.protobuf.wire.WireType.TheVariants as wires
use Rattle.perfdata_simpleperf.specs.Protobuf.WireFormat.{IsByte, VarintAt, VarintError, NumberAt, NumberError, wire_code, KeyAt, KeyError, Contents, number, bytes, skipped, Splits, FixedAt, FixedError, ValueAt, ValueError, IsNotGroup}
use Rattle.perfdata_simpleperf.specs.Protobuf.Groups.{SkipsItem, GroupItem, GroupItems, no_items, SkipItemError, GroupItemError, GroupAt, GroupError}
use Rattle.perfdata_simpleperf.proofs.Decoding.Numbers.{varint_last, varint_more, varint_error_more, small_fits}
use Rattle.perfdata_simpleperf.proofs.Decoding.GroupSteps.{items_then, item_shorter}
use Rattle.perfdata_simpleperf.proofs.Decoding.ItemUniqueness.{wire_of, code_back}

abbrev pub AreBytes : List ℕ → Type 0
AreBytes bs = AllByRecursion IsByte bs

-- a decoded value, and the bytes after it
pub record Reading (X : Type 0) (At : X → List ℕ → Type 0) : Type 0 where
  pub value : X
  pub rest : List ℕ
  pub at : At value rest
  pub are : AreBytes rest

abbrev pub HasError : (DecodeError → Type 0) → Type 0
HasError Is = (e : DecodeError) × Is e

abbrev pub ReadingOrError : (X : Type 0) → (X → List ℕ → Type 0) → (DecodeError → Type 0) → Type 0
ReadingOrError X At Is = Reading X At ⊎ HasError Is

-- ---- numbers

varint_here : (most b : ℕ) (bs : List ℕ) → 1 ≤ most → b < 128 → AreBytes bs → ReadingOrError ℕ (VarintAt most (2 * 128 ^ (most - 1)) (b ∷ bs)) (VarintError most (b ∷ bs))
varint_here most b bs le small are = elim (cases_eq most 1) [
  | inl one ↦ elim (cases_lt 1 b) [
    | inl high ↦ inr (errors.Varint, record { prefix = []; last = b; rest = bs; all_continue = tt; at_limit = omega (arith, one); exceeds_one = high; split = refl })
    | inr low ↦
        let e : 128 ^ (most - 1) ≡ 1 = ap (λ (x : ℕ). 128 ^ (x - 1)) one in
        inl record { value = b; rest = bs; at = varint_last most _ b bs le small (omega (arith, low, e)); are = are }
  ]
  | inr other ↦ inl record { value = b; rest = bs; at = varint_last most _ b bs le small (small_fits most b (omega (arith, le, other)) small); are = are }
]

varint_some : (bs : List ℕ) (most : ℕ) → 1 ≤ most → AreBytes bs → ReadingOrError ℕ (VarintAt most (2 * 128 ^ (most - 1)) bs) (VarintError most bs)
varint_some [] most le are = inr (errors.Truncated, record { all_continue = tt; too_few = omega (arith, le) })
varint_some (b ∷ bs) most le are = elim (cases_lt b 128) [
  | inl small ↦ varint_here most b bs le small are.1
  | inr continues ↦ elim (cases_eq most 1) [
    | inl one ↦ inr (errors.Varint, record { prefix = []; last = b; rest = bs; all_continue = tt; at_limit = omega (arith, one); exceeds_one = omega (arith, continues); split = refl })
    | inr other ↦
        let two : 2 ≤ most = omega (arith, le, other) in
        elim (varint_some bs (most - 1) (omega (arith, two)) are.1) [
          | inl high ↦ inl record { value = high.value * 128 + (b - 128); rest = high.rest; at = varint_more most high.value b bs high.rest two continues are.0 high.at; are = high.are }
          | inr error ↦ inr (error.0, varint_error_more most b bs error.0 two continues error.1)
        ]
  ]
]

pub number_some : (bs : List ℕ) → AreBytes bs → ReadingOrError ℕ (NumberAt bs) (NumberError bs)
number_some bs are = varint_some bs 10 (omega arith) are

pub number_either : (bs : List ℕ) → AreBytes bs → ((n : ℕ) × (r : List ℕ) × NumberAt bs n r) ⊎ ((e : DecodeError) × NumberError bs e)
number_either bs are = elim (number_some bs are) [ inl n ↦ inl (n.value, n.rest, n.at) | inr error ↦ inr error ]

-- ---- keys

abbrev KeyParts : Type 0
KeyParts = ℕ × WireType

abbrev HasKey : List ℕ → KeyParts → List ℕ → Type 0
HasKey bs k rest = KeyAt bs k.0 k.1 rest

key_of_code : (bs : List ℕ) (code : ℕ) (rest : List ℕ) → NumberAt bs code rest → code < 2 ^ 32 → code % 8 ≤ 5 → 8 ≤ code → KeyAt bs (code / 8) (wire_of (code % 8)) rest
key_of_code bs code rest at small low high =
    let back = code_back (code % 8) low in
    let e : code ≡ code / 8 * 8 + wire_code (wire_of (code % 8)) = omega (arith, back) in
    record { reads = subst (λ (n : ℕ). NumberAt bs n rest) e at; positive = omega (arith, high); in_range = omega (arith, e, small) }

code_some : (bs : List ℕ) (code : ℕ) (rest : List ℕ) → NumberAt bs code rest → AreBytes rest → ReadingOrError KeyParts (HasKey bs) (KeyError bs)
code_some bs code rest at are = elim (cases_lt code (2 ^ 32)) [
  | inr high ↦ inr (errors.Key, record { code = code; rest = rest; reads = at; error = inl high })
  | inl small ↦ elim (cases_lt 5 (code % 8)) [
    | inl invalid ↦ inr (errors.WireType, record { code = code; rest = rest; reads = at; error = (small, omega (arith, invalid)) })
    | inr low ↦ elim (cases_lt code 8) [
      | inl zero_field ↦ inr (errors.Key, record { code = code; rest = rest; reads = at; error = inr (omega (arith, zero_field, low)) })
      | inr high ↦ inl record { value = (code / 8, wire_of (code % 8)); rest = rest; at = key_of_code bs code rest at small low high; are = are }
    ]
  ]
]

key_error_from_number : (bs : List ℕ) (e : DecodeError) → NumberError bs e → KeyError bs e
key_error_from_number bs errors.Truncated f = f
key_error_from_number bs errors.Varint f = f
key_error_from_number bs _ f = absurd f

pub key_some : (bs : List ℕ) → AreBytes bs → ReadingOrError KeyParts (HasKey bs) (KeyError bs)
key_some bs are = elim (number_some bs are) [
  | inl code ↦ code_some bs code.value code.rest code.at code.are
  | inr error ↦ inr (error.0, key_error_from_number bs error.0 error.1)
]

-- ---- values

pub record SplitBytes (len : ℕ) (bs : List ℕ) : Type 0 where
  pub prefix : List ℕ
  pub rest : List ℕ
  pub splits : Splits bs len prefix rest
  pub are_prefix : AreBytes prefix
  pub are : AreBytes rest

split_some : (len : ℕ) (bs : List ℕ) → len ≤ length bs → AreBytes bs → SplitBytes len bs
split_some zero bs le are = record { prefix = []; rest = bs; splits = record { exact_len = refl; split = refl }; are_prefix = tt; are = are }
split_some (suc len) [] le are = absurd (omega (arith, le))
split_some (suc len) (b ∷ bs) le are =
    let s = split_some len bs (omega (arith, le)) are.1 in
    record {
      prefix = b ∷ s.prefix;
      rest = s.rest;
      splits = record { exact_len = (let l = s.splits.exact_len in omega (arith, l)); split = ap (λ (x : List ℕ). b ∷ x) s.splits.split };
      are_prefix = (are.0, s.are_prefix);
      are = s.are;
    }

-- a field's contents are bytes
abbrev pub HoldsBytes : Contents → Type 0
HoldsBytes (bytes b) = AreBytes b
HoldsBytes _ = Unit {0}

abbrev pub ValueOfBytes : WireType → List ℕ → Contents → List ℕ → Type 0
ValueOfBytes w bs x rest = ValueAt w bs x rest × HoldsBytes x

fixed_some : (len : ℕ) (bs : List ℕ) → AreBytes bs → ReadingOrError Contents (λ x rest. (x ≡ skipped) × FixedAt bs len rest) (FixedError len bs)
fixed_some len bs are = elim (cases_lt (length bs) len) [
  | inl short ↦ inr (errors.Truncated, short)
  | inr le ↦ let s = split_some len bs le are in inl record { value = skipped; rest = s.rest; at = (refl, record { prefix = s.prefix; splits = s.splits }); are = s.are }
]

fixed64_some : (bs : List ℕ) → AreBytes bs → ReadingOrError Contents (ValueOfBytes wires.Fixed64 bs) (ValueError wires.Fixed64 bs)
fixed64_some bs are = elim (fixed_some 8 bs are) [
  | inl x ↦ inl record { value = skipped; rest = x.rest; at = (x.at.1, tt); are = x.are }
  | inr error ↦ inr (error.0, error.1)
]

fixed32_some : (bs : List ℕ) → AreBytes bs → ReadingOrError Contents (ValueOfBytes wires.Fixed32 bs) (ValueError wires.Fixed32 bs)
fixed32_some bs are = elim (fixed_some 4 bs are) [
  | inl x ↦ inl record { value = skipped; rest = x.rest; at = (x.at.1, tt); are = x.are }
  | inr error ↦ inr (error.0, error.1)
]

length_error_from_number : (bs : List ℕ) (e : DecodeError) → NumberError bs e → ValueError wires.LengthDelimited bs e
length_error_from_number bs errors.Truncated f = inl f
length_error_from_number bs errors.Varint f = f
length_error_from_number bs _ f = absurd f

length_some : (bs : List ℕ) → AreBytes bs → ReadingOrError Contents (ValueOfBytes wires.LengthDelimited bs) (ValueError wires.LengthDelimited bs)
length_some bs are = elim (number_some bs are) [
  | inl len ↦ elim (cases_lt (length len.rest) len.value) [
    | inl short ↦ inr (errors.Truncated, inr record { len = len.value; mid = len.rest; reads = len.at; too_few = short })
    | inr le ↦
        let s = split_some len.value len.rest le len.are in
        inl record { value = bytes s.prefix; rest = s.rest; at = (record { len = len.value; mid = len.rest; reads = len.at; splits = s.splits }, s.are_prefix); are = s.are }
  ]
  | inr error ↦ inr (error.0, length_error_from_number bs error.0 error.1)
]

pub value_some : (w : WireType) (bs : List ℕ) → IsNotGroup w → AreBytes bs → ReadingOrError Contents (ValueOfBytes w bs) (ValueError w bs)
value_some wires.Varint bs plain are = elim (number_some bs are) [
  | inl n ↦ inl record { value = number n.value; rest = n.rest; at = (n.at, tt); are = n.are }
  | inr error ↦ inr (error.0, error.1)
]
value_some wires.Fixed64 bs plain are = fixed64_some bs are
value_some wires.LengthDelimited bs plain are = length_some bs are
value_some wires.Fixed32 bs plain are = fixed32_some bs are
value_some wires.StartGroup bs plain are = absurd plain
value_some wires.EndGroup bs plain are = absurd plain

-- ---- items

ends_none : (n : ℕ) (outer : List ℕ) → [] ≡ outer ++ n ∷ [] → ⊥
ends_none n outer e = let a = ap length e in let b = length-append outer (n ∷ []) in omega (arith, a, b)

ends_other : (a n : ℕ) → (a ≡ n → ⊥) → (outer : List ℕ) → a ∷ [] ≡ outer ++ n ∷ [] → ⊥
ends_other a n other [] e = other (let same : a ≡ n = cc in same)
ends_other a n other (o ∷ outer) e = let l = ap length e in let b = length-append outer (n ∷ []) in omega (arith, l, b)

ends_later : (a b : ℕ) (open_groups : List ℕ) (n : ℕ) → ((outer : List ℕ) → b ∷ open_groups ≡ outer ++ n ∷ [] → ⊥) → (outer : List ℕ) → a ∷ b ∷ open_groups ≡ outer ++ n ∷ [] → ⊥
ends_later a b open_groups n not [] e = let l = ap length e in omega (arith, l)
ends_later a b open_groups n not (o ∷ outer) e = not outer (let tail : b ∷ open_groups ≡ outer ++ n ∷ [] = cc in tail)

-- the list either ends with this number or doesn't
ends_some : (open_groups : List ℕ) (n : ℕ) → ((inner : List ℕ) × (open_groups ≡ inner ++ n ∷ [])) ⊎ ((outer : List ℕ) → open_groups ≡ outer ++ n ∷ [] → ⊥)
ends_some [] n = inr (ends_none n)
ends_some (a ∷ []) n = elim (cases_eq a n) [
  | inl same ↦ inl ([], ap (λ (x : ℕ). x ∷ []) same)
  | inr other ↦ inr (ends_other a n other)
]
ends_some (a ∷ b ∷ open_groups) n = elim (ends_some (b ∷ open_groups) n) [
  | inl is ↦ inl (a ∷ is.0, ap (λ (x : List ℕ). a ∷ x) is.1)
  | inr not ↦ inr (ends_later a b open_groups n not)
]

plain_some : (w : WireType) (n : ℕ) (open_groups bs : List ℕ) → IsNotGroup w → AreBytes bs → ReadingOrError (List ℕ) (λ inner rest. (open_groups ≡ inner) × (x : Contents) × ValueAt w bs x rest) (ValueError w bs)
plain_some w n open_groups bs plain are = elim (value_some w bs plain are) [
  | inl x ↦ inl record { value = open_groups; rest = x.rest; at = (refl, x.value, x.at.0); are = x.are }
  | inr error ↦ inr error
]

skip_item_some : (w : WireType) (n : ℕ) (open_groups bs : List ℕ) → AreBytes bs → ReadingOrError (List ℕ) (SkipsItem w n open_groups bs) (SkipItemError w n open_groups bs)
skip_item_some wires.StartGroup n open_groups bs are = elim (cases_lt (length open_groups) 100) [
  | inl fewer ↦ inl record { value = open_groups ++ n ∷ []; rest = bs; at = (fewer, refl, refl); are = are }
  | inr deep ↦ inr (errors.Depth, deep)
]
skip_item_some wires.EndGroup n open_groups bs are = elim (ends_some open_groups n) [
  | inl is ↦ inl record { value = is.0; rest = bs; at = (is.1, refl); are = are }
  | inr not ↦ inr (errors.Group, not)
]
skip_item_some wires.Varint n open_groups bs are = plain_some wires.Varint n open_groups bs tt are
skip_item_some wires.Fixed64 n open_groups bs are = plain_some wires.Fixed64 n open_groups bs tt are
skip_item_some wires.LengthDelimited n open_groups bs are = plain_some wires.LengthDelimited n open_groups bs tt are
skip_item_some wires.Fixed32 n open_groups bs are = plain_some wires.Fixed32 n open_groups bs tt are

item_some : (open_groups bs : List ℕ) → 0 < length open_groups → AreBytes bs → ReadingOrError (List ℕ) (λ inner rest. GroupItem open_groups bs inner rest) (GroupItemError open_groups bs)
item_some open_groups bs inside are = elim (key_some bs are) [
  | inl key ↦ elim (skip_item_some key.value.1 key.value.0 open_groups key.rest key.are) [
    | inl p ↦ inl record { value = p.value; rest = p.rest; at = record { field_number = key.value.0; wire_type = key.value.1; mid = key.rest; is_nonempty = inside; key = key.at; skips_item = p.at }; are = p.are }
    | inr error ↦ inr (error.0, inr record { field_number = key.value.0; wire_type = key.value.1; mid = key.rest; key = key.at; error = error.1 })
  ]
  | inr error ↦ inr (error.0, inl error.1)
]

-- ---- groups

-- the rest of a group after its start key, without a value
abbrev pub SkipsGroup : ℕ → List ℕ → Contents → List ℕ → Type 0
SkipsGroup n bs x rest = (x ≡ skipped) × GroupAt n bs rest

group_more : (most n : ℕ) (bs open_groups mid : List ℕ) → GroupItems (n ∷ []) bs open_groups mid → length mid < most → AreBytes mid → ReadingOrError Contents (SkipsGroup n bs) (GroupError n bs)
group_more zero n bs open_groups mid before less are = absurd (omega (arith, less))
group_more (suc most) n bs [] mid before less are = inl record { value = skipped; rest = mid; at = (refl, before); are = are }
group_more (suc most) n bs (a ∷ open_groups) mid before less are = elim (item_some (a ∷ open_groups) mid (omega arith) are) [
  | inl t ↦
      let shorter = item_shorter t.at in
      group_more most n bs t.value t.rest (items_then before t.at) (omega (arith, shorter, less)) t.are
  | inr error ↦ inr (error.0, record { open_groups = a ∷ open_groups; mid = mid; earlier = before; is_nonempty = omega arith; error_here = error.1 })
]

pub group_some : (n : ℕ) (bs : List ℕ) → AreBytes bs → ReadingOrError Contents (SkipsGroup n bs) (GroupError n bs)
group_some n bs are = group_more (suc (length bs)) n bs (n ∷ []) bs no_items (omega arith) are
