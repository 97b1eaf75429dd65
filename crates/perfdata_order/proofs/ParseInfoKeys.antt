-- Parse infos by their keys, as one is added.
use Rattle.std.proofs.Common.{◌≡◌, ℕ, zero, suc, true, false, cond, List, [], ◌∷◌, ◌++◌, length, Option, None, Some, refl, sym, ap, ◌∙◌, subst, inl, inr}
use Rattle.std.specs.Prelude.{◌≢◌, ◌⊎◌, slice_get}
use Rattle.std.specs.BTreeMap.{BTreeMap, get, is_at}
use Rattle.std.specs.Ordering.{ordering_then, is_eq}
use Rattle.std.specs.declared.cmp.Ordering.{Ordering}
use Rattle.std.specs.declared.cmp.Ordering.TheVariants.{Less, Equal, Greater}
use Rattle.std.proofs.lemmas.Cmp.{tied_itself, nat_cmp_total}
use Rattle.std.proofs.lemmas.Map.Lookups.{exact_unsigned}
use Rattle.perfdata_sources.specs.declared.endian.Endianness.{Endianness}
use Rattle.perfdata_sources.specs.declared.endian.Endianness.TheVariants.{LittleEndian, BigEndian}
use Rattle.perfdata_identifiers.specs.declared.place.parse_info.RecordParseInfo.{RecordParseInfo}
use Rattle.perfdata_order.specs.ParseInfoKeys.{Key, order_number, parse_info_key, offset_cmp, key_cmp, AreIndexed, AreDistinct}

-- ---- keys

both_equal : (a b : Ordering) → ordering_then a b ≡ Equal → (a ≡ Equal) × (b ≡ Equal)
both_equal Less b e = absurd (cc)
both_equal Equal b e = (refl, e)
both_equal Greater b e = absurd (cc)

then_equal : (a b : Ordering) → a ≡ Equal → b ≡ Equal → ordering_then a b ≡ Equal
then_equal a b first second = ap (λ o. ordering_then o b) first ∙ second

same_offset : (x y : Option ℕ) → offset_cmp x y ≡ Equal → x ≡ y
same_offset None None e = refl
same_offset None (Some b) e = absurd (cc)
same_offset (Some a) None e = absurd (cc)
same_offset (Some a) (Some b) e = ap Some (exact_unsigned a b e)

offset_itself : (x : Option ℕ) → offset_cmp x x ≡ Equal
offset_itself None = refl
offset_itself (Some a) = tied_itself nat_cmp_total a

same_order : (x y : Endianness) → order_number x ≡ order_number y → x ≡ y
same_order LittleEndian LittleEndian e = refl
same_order LittleEndian BigEndian e = absurd (cc)
same_order BigEndian LittleEndian e = absurd (cc)
same_order BigEndian BigEndian e = refl

key_itself : (x : Key) → key_cmp x x ≡ Equal
key_itself x =
    then_equal _ _ (then_equal _ _ (then_equal _ _ (then_equal _ _ (then_equal _ _ (tied_itself nat_cmp_total x.0) (tied_itself nat_cmp_total x.1)) (offset_itself x.2)) (offset_itself x.3)) (offset_itself x.4)) (offset_itself x.5)

-- Parse infos with equal keys are equal.
same_info : (p q : RecordParseInfo) → key_cmp (parse_info_key p) (parse_info_key q) ≡ Equal → p ≡ q
same_info p q tie =
    let to5 = both_equal _ _ tie in
    let to4 = both_equal _ _ to5.0 in
    let to3 = both_equal _ _ to4.0 in
    let to2 = both_equal _ _ to3.0 in
    let to1 = both_equal _ _ to2.0 in
    let order = same_order p.endian q.endian (exact_unsigned (order_number p.endian) (order_number q.endian) to1.0) in
    let format = exact_unsigned p.sample_format.0 q.sample_format.0 to1.1 in
    let id_start = same_offset p.id_parse_info.sample_id_from_start q.id_parse_info.sample_id_from_start to2.1 in
    let id_end = same_offset p.id_parse_info.other_id_from_end q.id_parse_info.other_id_from_end to3.1 in
    let time_start = same_offset p.sample_time_from_start q.sample_time_from_start to4.1 in
    let time_end = same_offset p.other_time_from_end q.other_time_from_end to5.1 in
    λ i. record {
      endian = order i;
      sample_format = record { 0 = format i };
      id_parse_info = record { sample_id_from_start = id_start i; other_id_from_end = id_end i };
      sample_time_from_start = time_start i;
      other_time_from_end = time_end i;
    }

-- ---- lists

get_before : {X : Type 0} (xs : List X) (x y : X) (i : ℕ) → slice_get xs i ≡ Some y → slice_get (xs ++ x ∷ []) i ≡ Some y
get_before [] x y i e = absurd (cc)
get_before (z ∷ xs) x y zero e = e
get_before (z ∷ xs) x y (suc i) e = get_before xs x y i e

get_last : {X : Type 0} (xs : List X) (x : X) → slice_get (xs ++ x ∷ []) (length xs) ≡ Some x
get_last [] x = refl
get_last (z ∷ xs) x = get_last xs x

one_later : {X : Type 0} (xs : List X) (x y : X) (i : ℕ) → (slice_get xs i ≡ Some y) ⊎ ((i ≡ length xs) × (x ≡ y)) → (slice_get xs i ≡ Some y) ⊎ ((suc i ≡ suc (length xs)) × (x ≡ y))
one_later xs x y i (inl before) = inl before
one_later xs x y i (inr last) = inr (ap suc last.0, last.1)

before_or_last : {X : Type 0} (xs : List X) (x y : X) (i : ℕ) → slice_get (xs ++ x ∷ []) i ≡ Some y → (slice_get xs i ≡ Some y) ⊎ ((i ≡ length xs) × (x ≡ y))
before_or_last [] x y zero e = inr (refl, cc)
before_or_last [] x y (suc i) e = absurd (cc)
before_or_last (z ∷ xs) x y zero e = inl e
before_or_last (z ∷ xs) x y (suc i) e = one_later xs x y i (before_or_last xs x y i e)

-- ---- a parse info is added

none_at : {A : Type 0} (o : Option A) (a : A) → o ≡ None → o ≡ Some a → ⊥
none_at o a none some = cc

same_some : (o : Option ℕ) (a b : ℕ) → o ≡ Some a → o ≡ Some b → a ≡ b
same_some o a b first second = cc

pub distinct_from_indexed : (indices : BTreeMap Key ℕ) (found : List RecordParseInfo) → AreIndexed indices found → AreDistinct found
distinct_from_indexed indices found indexed p i j first second =
    same_some (get key_cmp indices (parse_info_key p)) i j ((indexed p i).1 first) ((indexed p j).1 second)

pub absent_from_map : (indices : BTreeMap Key ℕ) (found : List RecordParseInfo) (p : RecordParseInfo) → AreIndexed indices found → get key_cmp indices (parse_info_key p) ≡ None → (other : ℕ) → slice_get found other ≢ Some p
absent_from_map indices found p indexed absent other there = none_at (get key_cmp indices (parse_info_key p)) other absent ((indexed p other).1 there)

module _ (old new : BTreeMap Key ℕ) (found : List RecordParseInfo) (p : RecordParseInfo) (n : ℕ) (is : n ≡ length found) (indexed : AreIndexed old found) (absent : get key_cmp old (parse_info_key p) ≡ None)
    (puts : (q : Key) → get key_cmp new q ≡ cond (is_at (key_cmp (parse_info_key p)) q) (Some n) (get key_cmp old q)) where
  abbrev IndexedAt : RecordParseInfo → ℕ → Type 0
  IndexedAt q index = (get key_cmp new (parse_info_key q) ≡ Some index → slice_get (found ++ p ∷ []) index ≡ Some q) × (slice_get (found ++ p ∷ []) index ≡ Some q → get key_cmp new (parse_info_key q) ≡ Some index)

  not_before : (q : RecordParseInfo) (index : ℕ) → p ≡ q → slice_get found index ≢ Some q
  not_before q index same there = absent_from_map old found p indexed absent index (there ∙ ap Some (sym same))

  back_same : (q : RecordParseInfo) (index : ℕ) → p ≡ q → (slice_get found index ≡ Some q) ⊎ ((index ≡ length found) × (p ≡ q)) → n ≡ index
  back_same q index same (inl there) = absurd (not_before q index same there)
  back_same q index same (inr last) = is ∙ sym last.0

  at_same : (q : RecordParseInfo) (index : ℕ) → key_cmp (parse_info_key p) (parse_info_key q) ≡ Equal → IndexedAt q index
  at_same q index tie =
      let same = same_info p q tie in
      let value : get key_cmp new (parse_info_key q) ≡ Some n = puts (parse_info_key q) ∙ ap (λ o. cond (is_eq o) (Some n) (get key_cmp old (parse_info_key q))) tie in (
        λ at.
            let found_here : length found ≡ index = sym is ∙ same_some (get key_cmp new (parse_info_key q)) n index value at in
            subst (λ i. slice_get (found ++ p ∷ []) i ≡ Some q) found_here (get_last found p ∙ ap Some same),
        λ at. value ∙ ap Some (back_same q index same (before_or_last found p q index at)),
      )

  back_other : (q : RecordParseInfo) (index : ℕ) → (p ≡ q → ⊥) → (slice_get found index ≡ Some q) ⊎ ((index ≡ length found) × (p ≡ q)) → get key_cmp old (parse_info_key q) ≡ Some index
  back_other q index other (inl there) = (indexed q index).1 there
  back_other q index other (inr last) = absurd (other last.1)

  at_other : (q : RecordParseInfo) (index : ℕ) → is_eq (key_cmp (parse_info_key p) (parse_info_key q)) ≡ false → IndexedAt q index
  at_other q index differs =
      let value : get key_cmp new (parse_info_key q) ≡ get key_cmp old (parse_info_key q) = puts (parse_info_key q) ∙ ap (λ b. cond b (Some n) (get key_cmp old (parse_info_key q))) differs in
      let other : p ≡ q → ⊥ = λ same.
      let yes : is_eq (key_cmp (parse_info_key p) (parse_info_key q)) ≡ true = ap is_eq (sym (ap (λ x. key_cmp (parse_info_key p) (parse_info_key x)) same) ∙ key_itself (parse_info_key p)) in cc in (
        λ at. get_before found p q index ((indexed q index).0 (sym value ∙ at)),
        λ at. value ∙ back_other q index other (before_or_last found p q index at),
      )

  at_either : (q : RecordParseInfo) (index : ℕ) (o : Ordering) → key_cmp (parse_info_key p) (parse_info_key q) ≡ o → IndexedAt q index
  at_either q index Less tie = at_other q index (ap is_eq tie)
  at_either q index Equal tie = at_same q index tie
  at_either q index Greater tie = at_other q index (ap is_eq tie)

  pub indexed_more : AreIndexed new (found ++ p ∷ [])
  indexed_more q index = at_either q index (key_cmp (parse_info_key p) (parse_info_key q)) refl
