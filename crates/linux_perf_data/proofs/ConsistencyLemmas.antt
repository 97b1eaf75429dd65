-- Attribute consistency is closed under prefixes and decidable, and an inconsistency is unique.
use Rattle.std.proofs.Common.{◌≡◌, ◌≢◌, ◌==◌, ℕ, suc, ◌+◌, ◌-◌, ◌*◌, ◌++◌, List, [], ◌∷◌, Bool, true, false, cond, not, nat_lt, length, drop, get_or, filter, option_map, All, refl, sym, ap, ◌∙◌, subst, arith, inl, inr}
use Rattle.std.specs.Prelude.{◌⊎◌, if◌then◌else◌, Option, None, Some}
use Rattle.std.specs.List.{position_or_len}
use Rattle.std.proofs.Math.Seq.{take-append_seam}
use Rattle.std.proofs.lemmas.Bool.{cases_eq, cases_lt, cases_Bool, cond-true, cond-false, lt-ltb, le-ltb, true≢false, false≢true}
use Rattle.std.proofs.lemmas.List.Elements.{All-nil, All-cons, All-head, All-tail, All-take, All-weaker}
use Rattle.perfdata_identifiers.specs.ParseInfo.{is_set, sample_words, trailing_words, offset_from_start, offset_from_end, identifier_word, id_parse_info_of}
use Rattle.perfdata_sources.specs.declared.attr.PerfEventAttr.{PerfEventAttr}
use Rattle.perfdata_identifiers.specs.declared.place.parse_info.RecordIdParseInfo.{RecordIdParseInfo}
use Rattle.linux_perf_data.specs.Attribute.{Attribute, AreConsistent, Inconsistency, missing_identifier, sample_id_all_differs, has_identifier, has_sample_id_all, ConformsTo, FirstNonconformingAt, FirstInconsistency, AreInconsistent}

-- a prefix of consistent attributes is consistent
pub consistent_prefix : (fs bs : List Attribute) → AreConsistent (fs ++ bs) → AreConsistent fs
consistent_prefix [] bs all_consistent = tt
consistent_prefix (a ∷ fs) bs all_consistent =
    let Same = λ (b : Attribute). id_parse_info_of b.attr ≡ id_parse_info_of a.attr in
    subst (All Same) (take-append_seam fs bs) (All-take Same (length fs) (fs ++ bs) all_consistent)

pub consistent_not_inconsistent : (attrs : List Attribute) (b : Inconsistency) → AreConsistent attrs → AreInconsistent attrs b → ⊥
consistent_not_inconsistent [] b all_consistent breaks = breaks
consistent_not_inconsistent (a ∷ more) b all_consistent breaks = breaks.0 all_consistent

-- The first attribute that doesn't conform is unique.

pub first_same : {X : Type 0} (x y : X) (xs ys : List X) → x ∷ xs ≡ y ∷ ys → x ≡ y
first_same x y xs ys e = ap (λ l. get_or l 0 x) e

pub tail_same : {X : Type 0} (x y : X) (xs ys : List X) → x ∷ xs ≡ y ∷ ys → xs ≡ ys
tail_same x y xs ys e = ap (drop 1) e

first_one : (P : Attribute → Type 0) (earlier earlier' back back' : List Attribute) (at at' : Attribute) → earlier ++ at ∷ back ≡ earlier' ++ at' ∷ back'
    → All P earlier → All P earlier' → ¬ P at → ¬ P at' → (length earlier ≡ length earlier') × (at ≡ at')
first_one P [] [] back back' at at' e before before' bad bad' = (refl, first_same at at' back back' e)
first_one P [] (x ∷ xs) back back' at at' e before before' bad bad' =
    absurd (bad (subst P (sym (first_same at x back (xs ++ at' ∷ back') e)) (All-head P x xs before')))
first_one P (x ∷ xs) [] back back' at at' e before before' bad bad' =
    absurd (bad' (subst P (first_same x at' (xs ++ at ∷ back) back' e) (All-head P x xs before)))
first_one P (x ∷ xs) (y ∷ ys) back back' at at' e before before' bad bad' =
    let r = first_one P xs ys back back' at at' (tail_same x y (xs ++ at ∷ back) (ys ++ at' ∷ back') e) (All-tail P x xs before) (All-tail P y ys before') bad bad' in
    (ap suc r.0, r.1)

breaks_one : (first : Attribute) (attrs : List Attribute) (i j : ℕ) (V W : Attribute → Type 0) → ((a : Attribute) → V a → ¬ ConformsTo first a) → ((a : Attribute) → W a → ¬ ConformsTo first a)
    → (x : FirstNonconformingAt first attrs i V) → (y : FirstNonconformingAt first attrs j W) → (i ≡ j) × (x.attribute ≡ y.attribute)
breaks_one first attrs i j V W v w x y =
    let r = first_one (ConformsTo first) x.earlier y.earlier x.later y.later x.attribute y.attribute (sym x.elements ∙ y.elements) x.earlier_conform y.earlier_conform (v x.attribute x.cause) (w y.attribute y.cause) in
    (sym x.index_matches ∙ r.0 ∙ y.index_matches, r.1)

abbrev Misses : Attribute → Type 0
Misses a = has_identifier a ≡ false

abbrev Differs : Attribute → Attribute → Type 0
Differs first a = (has_identifier a ≡ true) × (has_sample_id_all a ≢ has_sample_id_all first)

missing_not : (first a : Attribute) → Misses a → ¬ ConformsTo first a
missing_not first a is_missing conforms = true≢false (sym conforms.0 ∙ is_missing)

differs_not : (first a : Attribute) → Differs first a → ¬ ConformsTo first a
differs_not first a differs conforms = differs.1 conforms.1

breach_of_one : (first : Attribute) (attrs : List Attribute) (b c : Inconsistency) → FirstInconsistency first attrs b → FirstInconsistency first attrs c → b ≡ c
breach_of_one first attrs (missing_identifier i) (missing_identifier j) x y =
    ap missing_identifier (breaks_one first attrs i j Misses Misses (missing_not first) (missing_not first) x y).0
breach_of_one first attrs (missing_identifier i) (sample_id_all_differs j) x y =
    let r = breaks_one first attrs i j Misses (Differs first) (missing_not first) (differs_not first) x y in
    absurd (true≢false (sym (y.cause.0) ∙ ap has_identifier (sym r.1) ∙ x.cause))
breach_of_one first attrs (sample_id_all_differs i) (missing_identifier j) x y =
    let r = breaks_one first attrs i j (Differs first) Misses (differs_not first) (missing_not first) x y in
    absurd (true≢false (sym (x.cause.0) ∙ ap has_identifier r.1 ∙ y.cause))
breach_of_one first attrs (sample_id_all_differs i) (sample_id_all_differs j) x y =
    ap sample_id_all_differs (breaks_one first attrs i j (Differs first) (Differs first) (differs_not first) (differs_not first) x y).0

-- the inconsistency of attributes is unique
pub inconsistency_is_unique : (attrs : List Attribute) (b c : Inconsistency) → AreInconsistent attrs b → AreInconsistent attrs c → b ≡ c
inconsistency_is_unique [] b c x y = absurd x
inconsistency_is_unique (a ∷ more) b c x y = breach_of_one a (a ∷ more) b c x.1 y.1

-- If all records have IDENTIFIER, their identifiers are at the start of the body, and eight bytes before its end if the sample_id
-- fields are present.

abbrev DescribesEight : List ℕ → Type 0
DescribesEight words = offset_from_end words 16 ≡ Some 8

none_or_some : (n : ℕ) → ◌≡◌ {A = Option ℕ} None (Some n) → ⊥
none_or_some n e = cc

one_more : (i j m : ℕ) → j ≡ 1 + i → option_map (λ x. 8 * (m - x)) (cond (nat_lt i m) (Some i) None) ≡ Some 8
    → option_map (λ x. 8 * (suc m - x)) (cond (nat_lt j (suc m)) (Some j) None) ≡ Some 8
one_more i j m next is_eight = elim (cases_lt i m) [
  | inl inside ↦
      ap (option_map (λ x. 8 * (suc m - x))) (cond-true (nat_lt j (suc m)) (Some j) None (lt-ltb j (suc m) (omega (arith, inside, next))))
      ∙ ap Some (let same : 8 * (suc m - j) ≡ 8 * (m - i) = omega (arith, next) in same)
      ∙ sym (ap (option_map (λ x. 8 * (m - x))) (cond-true (nat_lt i m) (Some i) None (lt-ltb i m inside)))
      ∙ is_eight
  | inr outside ↦
      absurd (none_or_some 8 (sym (ap (option_map (λ x. 8 * (m - x))) (cond-false (nat_lt i m) (Some i) None (le-ltb i m outside))) ∙ is_eight))
]

more_words : (w : ℕ) (words : List ℕ) → (w == 16) ≡ false → DescribesEight words → DescribesEight (w ∷ words)
more_words w words other is_eight =
    let n = position_or_len (λ x. x == 16) words in
    one_more n (cond (not (w == 16)) (1 + n) 0) (length words) (ap (λ b. cond (not b) (1 + n) 0) other) is_eight

kept_word : (b : Bool) (w : ℕ) (words : List ℕ) → (w == 16) ≡ false → DescribesEight words → DescribesEight (cond b (w ∷ words) words)
kept_word true w words other is_eight = more_words w words other is_eight
kept_word false w words other is_eight = is_eight

last_word : (b : Bool) → b ≡ true → DescribesEight (cond b (16 ∷ []) [])
last_word b is = subst (λ c. DescribesEight (cond c (16 ∷ []) [])) (sym is) refl

trailing_is_eight : (format : ℕ) → is_set format 16 ≡ true → DescribesEight (filter (is_set format) (1 ∷ 2 ∷ 6 ∷ 9 ∷ 7 ∷ 16 ∷ []))
trailing_is_eight format is =
    kept_word (is_set format 1) 1 _ refl (kept_word (is_set format 2) 2 _ refl (kept_word (is_set format 6) 6 _ refl (kept_word (is_set format 9) 9 _ refl (kept_word (is_set format 7) 7 _ refl (last_word (is_set format 16) is)))))

end_is_eight : (t : Bool) (words : List ℕ) → DescribesEight words → offset_from_end (if t then words else []) 16 ≡ (if t then Some 8 else None)
end_is_eight true words is_eight = is_eight
end_is_eight false words is_eight = refl

start_here : (words : List ℕ) → offset_from_start (16 ∷ words) 16 ≡ Some 0
start_here words = ap (option_map (λ i. 8 * i)) (cond-true (nat_lt 0 (suc (length words))) (Some 0) None (lt-ltb 0 (suc (length words)) (omega arith)))

start_is_zero : (b : Bool) (words : List ℕ) → b ≡ true → offset_from_start (cond b (16 ∷ words) words) 16 ≡ Some 0
start_is_zero b words is = subst (λ c. offset_from_start (cond c (16 ∷ words) words) 16 ≡ Some 0) (sym is) (start_here words)

word_is_16 : (b : Bool) → b ≡ true → ◌≡◌ {A = ℕ} (if b then 16 else 6) 16
word_is_16 b is = ap (λ c. if c then 16 else 6) is

abbrev pub word_list_offsets : Bool → RecordIdParseInfo
word_list_offsets trailing = record { sample_id_from_start = Some 0; other_id_from_end = if trailing then Some 8 else None }

pub offsets_word_list : (a : PerfEventAttr) → is_set a.sample_format.0 16 ≡ true → id_parse_info_of a ≡ word_list_offsets (is_set a.flags.0 18)
offsets_word_list a is =
    let format = a.sample_format.0 in
    let trailing = trailing_words format a.flags.0 in
    let start : offset_from_start (sample_words format) (identifier_word format) ≡ Some 0 =
    ap (offset_from_start (sample_words format)) (word_is_16 (is_set format 16) is) ∙ start_is_zero (is_set format 16) (filter (is_set format) (0 ∷ 1 ∷ 2 ∷ 3 ∷ 6 ∷ [])) is in
    let back : offset_from_end trailing (identifier_word format) ≡ (if is_set a.flags.0 18 then Some 8 else None) =
    ap (offset_from_end trailing) (word_is_16 (is_set format 16) is) ∙ end_is_eight (is_set a.flags.0 18) (filter (is_set format) (1 ∷ 2 ∷ 6 ∷ 9 ∷ 7 ∷ 16 ∷ [])) (trailing_is_eight format is) in
    let first : id_parse_info_of a ≡ record { sample_id_from_start = Some 0; other_id_from_end = offset_from_end trailing (identifier_word format) } =
    ap (λ x. record { sample_id_from_start = x; other_id_from_end = offset_from_end trailing (identifier_word format) }) start in
    first ∙ ap (λ x. record { sample_id_from_start = Some 0; other_id_from_end = x }) back

pub same_offsets : (first a : Attribute) → has_identifier first ≡ true → ConformsTo first a → id_parse_info_of a.attr ≡ id_parse_info_of first.attr
same_offsets first a has conforms = offsets_word_list a.attr conforms.0 ∙ ap word_list_offsets conforms.1 ∙ sym (offsets_word_list first.attr has)

-- attributes that all conform are consistent
pub conforming_is_consistent : (a : Attribute) (more : List Attribute) → All (ConformsTo a) (a ∷ more) → AreConsistent (a ∷ more)
conforming_is_consistent a more all =
    let has = (All-head (ConformsTo a) a more all).0 in
    All-weaker (ConformsTo a) (λ b. id_parse_info_of b.attr ≡ id_parse_info_of a.attr) (λ b conforms. same_offsets a b has conforms) more (All-tail (ConformsTo a) a more all)

-- Consistency is decidable, and inconsistent attributes have a first one that doesn't conform.

same_or_not : (p q : Option ℕ) → (p ≡ q) ⊎ (p ≢ q)
same_or_not None None = inl refl
same_or_not None (Some n) = inr (λ e. cc)
same_or_not (Some m) None = inr (λ e. cc)
same_or_not (Some m) (Some n) = elim (cases_eq m n) [ inl is ↦ inl (ap Some is) | inr isnt ↦ inr (λ e. isnt (cc)) ]

pub agreed : (p q : RecordIdParseInfo) → p.sample_id_from_start ≡ q.sample_id_from_start → p.other_id_from_end ≡ q.other_id_from_end → p ≡ q
agreed p q start back =
    let one : p ≡ record { sample_id_from_start = q.sample_id_from_start; other_id_from_end = p.other_id_from_end } = ap (λ x. record { sample_id_from_start = x; other_id_from_end = p.other_id_from_end }) start in
    one ∙ ap (λ x. record { sample_id_from_start = q.sample_id_from_start; other_id_from_end = x }) back

agree_or_not : (p q : RecordIdParseInfo) → (p ≡ q) ⊎ (p ≢ q)
agree_or_not p q = elim (same_or_not p.sample_id_from_start q.sample_id_from_start) [
  | inr apart ↦ inr (λ e. apart (ap (λ r. r.sample_id_from_start) e))
  | inl start ↦ elim (same_or_not p.other_id_from_end q.other_id_from_end) [
    | inr apart ↦ inr (λ e. apart (ap (λ r. r.other_id_from_end) e))
    | inl back ↦ inl (agreed p q start back)
  ]
]

all_or_not : {X : Type 0} (P : X → Type 0) → ((x : X) → P x ⊎ (¬ P x)) → (xs : List X) → All P xs ⊎ (¬ All P xs)
all_or_not P decide [] = inl (All-nil P)
all_or_not P decide (x ∷ xs) = elim (decide x) [
  | inr bad ↦ inr (λ all. bad (All-head P x xs all))
  | inl good ↦ elim (all_or_not P decide xs) [
    | inr bad ↦ inr (λ all. bad (All-tail P x xs all))
    | inl all ↦ inl (All-cons P x xs good all)
  ]
]

same_bits : (a b : Bool) → (a ≡ b) ⊎ (a ≢ b)
same_bits true true = inl refl
same_bits true false = inr true≢false
same_bits false true = inr false≢true
same_bits false false = inl refl

conforms_or : (first a : Attribute) → ConformsTo first a ⊎ (Misses a ⊎ Differs first a)
conforms_or first a = elim (cases_Bool (has_identifier a)) [
  | inr is_missing ↦ inr (inl is_missing)
  | inl has ↦ elim (same_bits (has_sample_id_all a) (has_sample_id_all first)) [ inl same ↦ inl (has, same) | inr differs ↦ inr (inr (has, differs)) ]
]

later_breach : (first a : Attribute) (attrs : List Attribute) (i : ℕ) (W : Attribute → Type 0) → ConformsTo first a → FirstNonconformingAt first attrs i W → FirstNonconformingAt first (a ∷ attrs) (suc i) W
later_breach first a attrs i W conforms breaks = record {
  earlier = a ∷ breaks.earlier;
  attribute = breaks.attribute;
  later = breaks.later;
  elements = ap (λ l. a ∷ l) breaks.elements;
  index_matches = ap suc breaks.index_matches;
  earlier_conform = All-cons (ConformsTo first) a breaks.earlier conforms breaks.earlier_conform;
  cause = breaks.cause;
}

first_breach : (first a : Attribute) (attrs : List Attribute) (W : Attribute → Type 0) → W a → FirstNonconformingAt first (a ∷ attrs) 0 W
first_breach first a attrs W reason = record { earlier = []; attribute = a; later = attrs; elements = refl; index_matches = refl; earlier_conform = All-nil (ConformsTo first); cause = reason }

later : (first a : Attribute) (attrs : List Attribute) (b : Inconsistency) → ConformsTo first a → FirstInconsistency first attrs b → (c : Inconsistency) × FirstInconsistency first (a ∷ attrs) c
later first a attrs (missing_identifier i) conforms breaks = (missing_identifier (suc i), later_breach first a attrs i Misses conforms breaks)
later first a attrs (sample_id_all_differs i) conforms breaks = (sample_id_all_differs (suc i), later_breach first a attrs i (Differs first) conforms breaks)

find_breach : (first : Attribute) (attrs : List Attribute) → All (ConformsTo first) attrs ⊎ ((b : Inconsistency) × FirstInconsistency first attrs b)
find_breach first [] = inl (All-nil (ConformsTo first))
find_breach first (a ∷ attrs) = elim (conforms_or first a) [
  | inr (inl is_missing) ↦ inr (missing_identifier 0, first_breach first a attrs Misses is_missing)
  | inr (inr differs) ↦ inr (sample_id_all_differs 0, first_breach first a attrs (Differs first) differs)
  | inl conforms ↦ elim (find_breach first attrs) [
    | inl all ↦ inl (All-cons (ConformsTo first) a attrs conforms all)
    | inr found ↦ inr (later first a attrs found.0 conforms found.1)
  ]
]

-- attributes are consistent or inconsistent
pub consistent_or_not : (attrs : List Attribute) → AreConsistent attrs ⊎ ((b : Inconsistency) × AreInconsistent attrs b)
consistent_or_not [] = inl tt
consistent_or_not (a ∷ more) = elim (all_or_not (λ b. id_parse_info_of b.attr ≡ id_parse_info_of a.attr) (λ b. agree_or_not (id_parse_info_of b.attr) (id_parse_info_of a.attr)) more) [
  | inl all_consistent ↦ inl all_consistent
  | inr broken ↦ elim (find_breach a (a ∷ more)) [
    | inl all ↦ absurd (broken (conforming_is_consistent a more all))
    | inr found ↦ inr (found.0, (broken, found.1))
  ]
]
