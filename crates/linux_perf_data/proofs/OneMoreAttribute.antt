-- Properties of attributes after one more attribute.
use Rattle.std.proofs.Common.{◌≡◌, ◌≢◌, ℕ, suc, ◌+◌, ◌<◌, ◌++◌, List, [], ◌∷◌, Bool, true, false, length, get_or, drop, All, refl, sym, ap, ◌∙◌, subst, arith, inl, inr, append_assoc, drop-cons}
use Rattle.std.specs.Prelude.{if◌then◌else◌, Option, None, Some}
use Rattle.std.specs.Option.{option_or}
use Rattle.std.proofs.lemmas.Bool.{cases_Bool}
use Rattle.std.proofs.lemmas.List.Elements.{All-nil, All-cons, All-head, All-tail, All-append}
use Rattle.perfdata_identifiers.specs.ParseInfo.{id_parse_info_of}
use Rattle.perfdata_identifiers.specs.declared.place.parse_info.RecordIdParseInfo.{RecordIdParseInfo}
use Rattle.perfdata_sections.specs.declared.feature_sections.AttributeDescription.{AttributeDescription}
use Rattle.linux_perf_data.specs.Attribute.{Attribute, AreConsistent, missing_identifier, sample_id_all_differs, has_identifier, has_sample_id_all, ConformsTo, AreInconsistent, lists_id, last_index_listing}
use Rattle.linux_perf_data.specs.Descriptions.{described_attribute, described_attributes}
use Rattle.linux_perf_data.specs.Consistency.{first_without_identifier}
use Rattle.linux_perf_data.proofs.ConsistencyLemmas.{offsets_word_list, word_list_offsets, same_offsets}

-- ---- the first attribute without IDENTIFIER

abbrev Has : Attribute → Type 0
Has a = has_identifier a ≡ true

pub record MissesFirst (i k : ℕ) (attrs : List Attribute) : Type 0 where
  pub first_part : List Attribute
  pub at : Attribute
  pub back : List Attribute
  pub are : attrs ≡ first_part ++ at ∷ back
  pub place : i + length first_part ≡ k
  pub before : All Has first_part
  pub is_missing : has_identifier at ≡ false

not_there_here : (i k : ℕ) (a : Attribute) (more : List Attribute) → has_identifier a ≡ false → first_without_identifier i (a ∷ more) ≡ Some k → MissesFirst i k (a ∷ more)
not_there_here i k a more is_missing is =
    let described : Some i ≡ Some k = sym (ap (λ b. if b then first_without_identifier (i + 1) more else Some i) is_missing) ∙ is in
    let same : i ≡ k = cc in
    record { first_part = []; at = a; back = more; are = refl; place = omega (arith, same); before = All-nil Has; is_missing = is_missing }

missing_later : (i k : ℕ) (a : Attribute) (more : List Attribute) → Has a → MissesFirst (i + 1) k more → MissesFirst i k (a ∷ more)
missing_later i k a more has l =
    let place = l.place in
    record { first_part = a ∷ l.first_part; at = l.at; back = l.back; are = ap (λ xs. a ∷ xs) l.are; place = omega (arith, place); before = All-cons Has a l.first_part has l.before; is_missing = l.is_missing }

pub missing_first : (i k : ℕ) (attrs : List Attribute) → first_without_identifier i attrs ≡ Some k → MissesFirst i k attrs
missing_first i k [] is = absurd (let off : ◌≡◌ {A = Option ℕ} None (Some k) = is in cc)
missing_first i k (a ∷ more) is = elim (cases_Bool (has_identifier a)) [
  | inl has ↦ missing_later i k a more has (missing_first (i + 1) k more (sym (ap (λ b. if b then first_without_identifier (i + 1) more else Some i) has) ∙ is))
  | inr is_missing ↦ not_there_here i k a more is_missing is
]

pub all_have : (i : ℕ) (attrs : List Attribute) → first_without_identifier i attrs ≡ None → All Has attrs
all_have i [] is = All-nil Has
all_have i (a ∷ more) is = elim (cases_Bool (has_identifier a)) [
  | inl has ↦ All-cons Has a more has (all_have (i + 1) more (sym (ap (λ b. if b then first_without_identifier (i + 1) more else Some i) has) ∙ is))
  | inr is_missing ↦ absurd (let off : ◌≡◌ {A = Option ℕ} (Some i) None = sym (ap (λ b. if b then first_without_identifier (i + 1) more else Some i) is_missing) ∙ is in cc)
]

-- one more description is checked
pub looked_at : (ds : List AttributeDescription) (i : ℕ) (d : AttributeDescription) (b : Bool) → i < length ds → d ≡ get_or ds i d → has_identifier (described_attribute d) ≡ b
    → first_without_identifier i (described_attributes (drop i ds)) ≡ (if b then first_without_identifier (i + 1) (described_attributes (drop (i + 1) ds)) else Some i)
looked_at ds i d b inside is has =
    let next : suc i ≡ i + 1 = omega arith in
    let split : drop i ds ≡ d ∷ drop (i + 1) ds = drop-cons ds i d inside ∙ ap (λ x. x ∷ drop (suc i) ds) (sym is) ∙ ap (λ n. d ∷ drop n ds) next in
    ap (λ l. first_without_identifier i (described_attributes l)) split ∙ ap (λ c. if c then first_without_identifier (i + 1) (described_attributes (drop (i + 1) ds)) else Some i) has

or_later : (b : Bool) (o p : Option ℕ) (i : ℕ) → (if b then option_or o p else Some i) ≡ option_or (if b then o else Some i) p
or_later true o p i = refl
or_later false o p i = refl

-- the first without IDENTIFIER, with one more attribute
pub unidentified_more : (i : ℕ) (attrs : List Attribute) (a : Attribute) (n : ℕ) → n ≡ i + length attrs → first_without_identifier i (attrs ++ a ∷ []) ≡ option_or (first_without_identifier i attrs) (if has_identifier a then None else Some n)
unidentified_more i [] a n is = (let same : i ≡ n = omega (arith, is) in ap (λ k. if has_identifier a then None else Some k) same)
unidentified_more i (b ∷ more) a n is =
    ap (λ o. if has_identifier b then o else Some i) (unidentified_more (i + 1) more a n (omega (arith, is)))
    ∙ or_later (has_identifier b) (first_without_identifier (i + 1) more) (if has_identifier a then None else Some n) i

-- ---- an inconsistency

abbrev Same : RecordIdParseInfo → Attribute → Type 0
Same places a = id_parse_info_of a.attr ≡ places

-- consistent attributes all have the ID offsets of the first
pub consistent_same : (first : Attribute) (more : List Attribute) → AreConsistent (first ∷ more) → All (Same (id_parse_info_of first.attr)) (first ∷ more)
consistent_same first more all_consistent = All-cons (Same (id_parse_info_of first.attr)) first more refl all_consistent

word_list_offsets_unique : (a b : Bool) → word_list_offsets a ≡ word_list_offsets b → a ≡ b
word_list_offsets_unique true true e = refl
word_list_offsets_unique false false e = refl
word_list_offsets_unique true false e = absurd (let off : ◌≡◌ {A = Option ℕ} (Some 8) None = ap (λ p. p.other_id_from_end) e in cc)
word_list_offsets_unique false true e = absurd (let off : ◌≡◌ {A = Option ℕ} None (Some 8) = ap (λ p. p.other_id_from_end) e in cc)

-- An attribute with IDENTIFIER conforms to a first one with IDENTIFIER and the same ID offsets.
conforming : (first a : Attribute) → Has first → Has a → Same (id_parse_info_of first.attr) a → ConformsTo first a
conforming first a firsts has same = (has, word_list_offsets_unique (has_sample_id_all a) (has_sample_id_all first) (sym (offsets_word_list a.attr has) ∙ same ∙ offsets_word_list first.attr firsts))

all_conform : (first : Attribute) (first_part : List Attribute) → Has first → All Has first_part → All (Same (id_parse_info_of first.attr)) first_part → All (ConformsTo first) first_part
all_conform first [] firsts has same = All-nil (ConformsTo first)
all_conform first (a ∷ first_part) firsts has same =
    All-cons (ConformsTo first) a first_part (conforming first a firsts (All-head Has a first_part has) (All-head (Same (id_parse_info_of first.attr)) a first_part same))
    (all_conform first first_part firsts (All-tail Has a first_part has) (All-tail (Same (id_parse_info_of first.attr)) a first_part same))

-- a prefix of attributes with the same ID offsets
first_part_same : (P : Attribute → Type 0) (first_part back : List Attribute) → All P (first_part ++ back) → All P first_part
first_part_same P [] back all = All-nil P
first_part_same P (a ∷ first_part) back all = All-cons P a first_part (All-head P a (first_part ++ back) all) (first_part_same P first_part back (All-tail P a (first_part ++ back) all))

-- the attributes before the first without IDENTIFIER conform
before_conform : (first : Attribute) (more first_part : List Attribute) (at : Attribute) (back : List Attribute) → AreConsistent (first ∷ more) → first ∷ more ≡ first_part ++ at ∷ back → All Has first_part → All (ConformsTo first) first_part
before_conform first more [] at back all_consistent are has = All-nil (ConformsTo first)
before_conform first more (x ∷ first_part) at back all_consistent are has =
    let P = Same (id_parse_info_of first.attr) in
    let is : x ≡ first = sym (ap (λ l. get_or l 0 first) are) in
    let firsts : Has first = subst Has is (All-head Has x first_part has) in
    all_conform first (x ∷ first_part) firsts has (first_part_same P (x ∷ first_part) (at ∷ back) (subst (All P) are (consistent_same first more all_consistent)))

last_of_all : (P : Attribute → Type 0) (xs : List Attribute) (a : Attribute) → All P (xs ++ a ∷ []) → P a
last_of_all P [] a all = All-head P a [] all
last_of_all P (x ∷ xs) a all = last_of_all P xs a (All-tail P x (xs ++ a ∷ []) all)

module _ (first : Attribute) (more : List Attribute) (a : Attribute) (all_consistent : AreConsistent (first ∷ more)) where
  -- one more attribute with the same ID offsets leaves them consistent
  pub consistent_more : id_parse_info_of a.attr ≡ id_parse_info_of first.attr → AreConsistent (first ∷ more ++ a ∷ [])
  consistent_more same =
      let P = Same (id_parse_info_of first.attr) in
      All-append P more (a ∷ []) all_consistent (All-cons P a [] same (All-nil P))

  not_kept : id_parse_info_of a.attr ≢ id_parse_info_of first.attr → ¬ AreConsistent (first ∷ more ++ a ∷ [])
  not_kept apart kept = apart (last_of_all (Same (id_parse_info_of first.attr)) more a kept)

  -- if one of them lacks IDENTIFIER, the first such attribute causes the inconsistency
  pub inconsistent_before : (k : ℕ) → id_parse_info_of a.attr ≢ id_parse_info_of first.attr → first_without_identifier 0 (first ∷ more) ≡ Some k → AreInconsistent (first ∷ more ++ a ∷ []) (missing_identifier k)
  inconsistent_before k apart is_missing =
      let l = missing_first 0 k (first ∷ more) is_missing in
      let place = l.place in (
        not_kept apart,
        record {
          earlier = l.first_part;
          attribute = l.at;
          later = l.back ++ a ∷ [];
          elements = ap (λ xs. xs ++ a ∷ []) l.are ∙ append_assoc l.first_part (l.at ∷ l.back) (a ∷ []);
          index_matches = omega (arith, place);
          earlier_conform = before_conform first more l.first_part l.at l.back all_consistent l.are l.before;
          cause = l.is_missing;
        },
      )

  conform : first_without_identifier 0 (first ∷ more) ≡ None → All (ConformsTo first) (first ∷ more)
  conform none =
      let has = all_have 0 (first ∷ more) none in
      all_conform first (first ∷ more) (All-head Has first more has) has (consistent_same first more all_consistent)

  -- if all of them have IDENTIFIER, the new one causes the inconsistency
  pub inconsistent_lacking : (n : ℕ) → id_parse_info_of a.attr ≢ id_parse_info_of first.attr → first_without_identifier 0 (first ∷ more) ≡ None → n ≡ length (first ∷ more) → has_identifier a ≡ false → AreInconsistent (first ∷ more ++ a ∷ []) (missing_identifier n)
  inconsistent_lacking n apart none count is_missing = (not_kept apart, record { earlier = first ∷ more; attribute = a; later = []; elements = refl; index_matches = sym count; earlier_conform = conform none; cause = is_missing })

  pub inconsistent_differing : (n : ℕ) → id_parse_info_of a.attr ≢ id_parse_info_of first.attr → first_without_identifier 0 (first ∷ more) ≡ None → n ≡ length (first ∷ more) → has_identifier a ≡ true → AreInconsistent (first ∷ more ++ a ∷ []) (sample_id_all_differs n)
  inconsistent_differing n apart none count has =
      let firsts : Has first = All-head Has first more (all_have 0 (first ∷ more) none) in
      let differs : has_sample_id_all a ≢ has_sample_id_all first = λ same. apart (same_offsets first a firsts (has, same)) in
      (not_kept apart, record { earlier = first ∷ more; attribute = a; later = []; elements = refl; index_matches = sym count; earlier_conform = conform none; cause = (has, differs) })

-- ---- the index of an identifier

pub greatest_more : (id i best : ℕ) (attrs : List Attribute) (a : Attribute) → last_index_listing id i best (attrs ++ a ∷ []) ≡ (if lists_id id a.ids then i + length attrs else last_index_listing id i best attrs)
greatest_more id i best [] a = ap (λ n. if lists_id id a.ids then n else best) (omega arith)
greatest_more id i best (b ∷ bs) a =
    greatest_more id (i + 1) (if lists_id id b.ids then i else best) bs a
    ∙ ap (λ n. if lists_id id a.ids then n else last_index_listing id (i + 1) (if lists_id id b.ids then i else best) bs) (omega arith)
