use Rattle.std.proofs.Common.{◌≡◌, ◌∙◌, Bool, true, false, take, refl, subst, sym}
use Rattle.std.proofs.lemmas.Bool.Decides.{Decides-eqb}
use Rattle.std.proofs.lemmas.Slice.Eq.{slice_eq-Decides}
use Rattle.std.specs.Prelude.{IfNone}
use Rattle.perfdata_sources.specs.declared.endian.Endianness.TheVariants.{BigEndian}
use Rattle.perfdata_base.specs.Header.{IsUnknownMagic, magic_of}
use Rattle.perfdata_arrays.proofs.byte_order.is_big_endian.Goals as goal

is_false : (r : Bool) → (r ≡ true → ⊥) → false ≡ r
is_false true never = absurd (never refl)
is_false false never = refl

pub returns-in_default-2 : goal.returns-in_default-2
returns-in_default-2 c =
    let unknown = subst (λ found. IfNone found (IsUnknownMagic c.in-Some.magic.now)) c.in_default.is c.endian_of_magic.ensures.none in
    let same = slice_eq-Decides Decides-eqb (magic_of BigEndian) (take 8 c.args.bytes.now) _ refl in
    is_false _ (λ yes. unknown BigEndian (c.in-Some.ensures.cases.same ∙ sym (same.0 yes)))
