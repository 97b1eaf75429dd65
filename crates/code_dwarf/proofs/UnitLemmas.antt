-- The units of a section.
use Rattle.std.proofs.Common.{◌≡◌, ℕ, ◌+◌, ◌<◌, ◌≤◌, List, [], ◌∷◌, ◌++◌, length, Bool, Option, Some, None, refl, sym, ap, subst, arith, inl, inr}
use Rattle.std.specs.Prelude.{IfSome, IfNone, if◌then◌else◌}
use Rattle.std.specs.Option.{option_to_list}
use Rattle.code_dwarf.specs.steps.Numbers.{NumberAt, OffsetAt, LengthAt, SplitAt, NoLength}
use Rattle.code_dwarf.specs.steps.Units.{NewFieldsAt, FieldsAt, AfterFields, HeaderAt, NoHeader, NoOldFields, NoNewFields, NoAfterFields, NoFields, PieceAt, NoPiece, Pieces, units_of}
use Rattle.code_dwarf.specs.declared.fixed.Endianness.{Endianness}
use Rattle.code_dwarf.specs.declared.units.UnitHeader.{UnitHeader}
use Rattle.code_dwarf.specs.declared.units.UnitFields.{UnitFields}
use Rattle.code_dwarf.proofs.NumberLemmas.{length_same, number_same, offset_same, no_offset}

pub pieces_push : (endian : Endianness) (size : ℕ) (bytes mid rest : List ℕ) (ps : List (Option UnitHeader)) (p : Option UnitHeader) → Pieces endian size bytes ps mid → PieceAt endian size mid p rest → Pieces endian size bytes (ps ++ p ∷ []) rest
pieces_push endian size bytes mid rest [] p before at = (rest, subst (λ (bs : List ℕ). PieceAt endian size bs p rest) before at, refl)
pieces_push endian size bytes mid rest (q ∷ ps) p before at = (before.0, before.1, pieces_push endian size before.0 mid rest ps p before.2 at)

pub units_more : (ps : List (Option UnitHeader)) (p : Option UnitHeader) → units_of (ps ++ p ∷ []) ≡ units_of ps ++ option_to_list p
units_more [] None = refl
units_more [] (Some u) = refl
units_more (None ∷ ps) p = units_more ps p
units_more (Some v ∷ ps) p = ap (λ (us : List UnitHeader). v ∷ us) (units_more ps p)

-- a unit that was read, or one that can't be
pub piece_of : (endian : Endianness) (size : ℕ) (bytes mid contents rest : List ℕ) (is_64 : Bool) (len offset end : ℕ) (p : Option UnitHeader) → LengthAt endian is_64 bytes len mid → SplitAt len mid contents rest → offset + length bytes ≡ size → end + length rest ≡ size
    → IfSome p (λ u. HeaderAt endian is_64 contents u) → IfSome p (λ u. u.offset ≡ offset) → IfSome p (λ u. u.end ≡ end) → IfNone p (NoHeader endian is_64 contents) → PieceAt endian size bytes p rest
piece_of endian size bytes mid contents rest is_64 len offset end (Some u) length_at split_at starts ends header offset_is end_is none = record {
  is_64 = is_64;
  len = len;
  mid = mid;
  contents = contents;
  length_at = length_at;
  contents_at = split_at;
  header_at = header;
  starts = omega (arith, starts, offset_is);
  ends = omega (arith, ends, end_is);
}
piece_of endian size bytes mid contents rest is_64 len offset end None length_at split_at starts ends header offset_is end_is none = record {
  is_64 = is_64;
  len = len;
  mid = mid;
  contents = contents;
  length_at = length_at;
  contents_at = split_at;
  no_header = none;
}

-- the bytes start with no unit
pub no_piece_length : (endian : Endianness) (size : ℕ) (bytes : List ℕ) → NoLength endian bytes → NoPiece endian size bytes
no_piece_length endian size bytes none (Some u) rest at = none at.is_64 at.len at.mid at.length_at
no_piece_length endian size bytes none None rest at = none at.is_64 at.len at.mid at.length_at

too_long : (endian : Endianness) (bytes mid : List ℕ) (is_64 other : Bool) (len n : ℕ) (m contents rest : List ℕ) → LengthAt endian is_64 bytes len mid → length mid < len → LengthAt endian other bytes n m → SplitAt n m contents rest → ⊥
too_long endian bytes mid is_64 other len n m contents rest is less at split =
    let e = length_same endian is_64 other bytes len n mid m is at in
    let within = split.within in
    let sizes = e.1 in
    let lengths = ap length e.2 in
    omega (arith, less, within, sizes, lengths)

pub no_piece_contents : (endian : Endianness) (size : ℕ) (bytes mid : List ℕ) (is_64 : Bool) (len : ℕ) → LengthAt endian is_64 bytes len mid → length mid < len → NoPiece endian size bytes
no_piece_contents endian size bytes mid is_64 len is less (Some u) rest at = too_long endian bytes mid is_64 at.is_64 len at.len at.mid at.contents rest is less at.length_at at.contents_at
no_piece_contents endian size bytes mid is_64 len is less None rest at = too_long endian bytes mid is_64 at.is_64 len at.len at.mid at.contents rest is less at.length_at at.contents_at

-- the fields of version 5, and of those before it, are none
pub no_old_size : (endian : Endianness) (is_64 : Bool) (bytes : List ℕ) (n : ℕ) (after : List ℕ) → OffsetAt endian is_64 bytes n after → after ≡ [] → NoOldFields endian is_64 bytes
no_old_size endian is_64 bytes n after is none f rest at =
    let e = (offset_same endian is_64 bytes n f.abbreviations after at.mid is at.abbreviations_at).1 in
    let s = at.size_at in
    cc (e, none, s)

new_mid : (endian : Endianness) (is_64 : Bool) (bytes : List ℕ) (kind size : ℕ) (after : List ℕ) (f : UnitFields) (rest : List ℕ) → bytes ≡ kind ∷ size ∷ after → (at : NewFieldsAt endian is_64 bytes f rest) → (kind ≡ f.kind) × (size ≡ f.address_size) × (after ≡ at.mid)
new_mid endian is_64 bytes kind size after f rest is at =
    let s = at.bytes_at in
    let kinds : kind ≡ f.kind = cc (is, s) in
    let sizes : size ≡ f.address_size = cc (is, s) in
    let mids : after ≡ at.mid = cc (is, s) in
    (kinds, sizes, mids)

pub no_new_offset : (endian : Endianness) (is_64 : Bool) (bytes : List ℕ) (kind size : ℕ) (after : List ℕ) → bytes ≡ kind ∷ size ∷ after → length after < (if is_64 then 8 else 4) → NoNewFields endian is_64 bytes
no_new_offset endian is_64 bytes kind size after is less f rest at =
    let mids = (new_mid endian is_64 bytes kind size after f rest is at).2 in
    no_offset endian is_64 after f.abbreviations at.after less (subst (λ (bs : List ℕ). OffsetAt endian is_64 bs f.abbreviations at.after) (sym mids) at.abbreviations_at)

pub no_new_after : (endian : Endianness) (is_64 : Bool) (bytes : List ℕ) (kind size n : ℕ) (after last : List ℕ) → bytes ≡ kind ∷ size ∷ after → OffsetAt endian is_64 after n last → NoAfterFields kind last → NoNewFields endian is_64 bytes
no_new_after endian is_64 bytes kind size n after last is offset none f rest at =
    let m = new_mid endian is_64 bytes kind size after f rest is at in
    let other = subst (λ (bs : List ℕ). OffsetAt endian is_64 bs f.abbreviations at.after) (sym m.2) at.abbreviations_at in
    let lasts = (offset_same endian is_64 after n f.abbreviations last at.after offset other).1 in
    none rest (subst (λ (k : ℕ). AfterFields k last rest) (sym m.0) (subst (λ (bs : List ℕ). AfterFields f.kind bs rest) (sym lasts) at.rest_at))

pub no_fields_old : (endian : Endianness) (version : ℕ) (is_64 : Bool) (bytes : List ℕ) → version ≤ 4 → NoOldFields endian is_64 bytes → NoFields endian version is_64 bytes
no_fields_old endian version is_64 bytes small none f rest (inl p) = none f rest p.2
no_fields_old endian version is_64 bytes small none f rest (inr p) = let five = p.0 in absurd (omega (arith, small, five))

pub no_fields_new : (endian : Endianness) (version : ℕ) (is_64 : Bool) (bytes : List ℕ) → version ≡ 5 → NoNewFields endian is_64 bytes → NoFields endian version is_64 bytes
no_fields_new endian version is_64 bytes five none f rest (inl p) = let small = p.1 in absurd (omega (arith, small, five))
no_fields_new endian version is_64 bytes five none f rest (inr p) = none f rest p.1

header_fields : (endian : Endianness) (is_64 : Bool) (contents mid : List ℕ) (version : ℕ) (u : UnitHeader) → NumberAt endian 2 contents version mid → (at : HeaderAt endian is_64 contents u) → FieldsAt endian version is_64 mid at.fields at.entries
header_fields endian is_64 contents mid version u is at =
    let e = number_same endian 2 contents version u.version mid at.mid is at.version_at in
    subst (λ (v : ℕ). FieldsAt endian v is_64 mid at.fields at.entries) (sym e.0) (subst (λ (bs : List ℕ). FieldsAt endian u.version is_64 bs at.fields at.entries) (sym e.1) at.fields_at)

pub no_header_fields : (endian : Endianness) (is_64 : Bool) (contents mid : List ℕ) (version : ℕ) → NumberAt endian 2 contents version mid → NoFields endian version is_64 mid → NoHeader endian is_64 contents
no_header_fields endian is_64 contents mid version is none u at = none at.fields at.entries (header_fields endian is_64 contents mid version u is at)
