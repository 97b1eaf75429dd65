-- Lemmas that check attributes one after another and conclude a fact about all of them.
use Rattle.std.proofs.Common.{◌≡◌, ◌≢◌, ℕ, zero, suc, ◌+◌, ◌<◌, ◌≤◌, ◌++◌, List, [], ◌∷◌, Bool, true, false, length, get_or, take, drop, map, All, refl, sym, ap, ◌∙◌, subst, arith, take-append-drop, drop-cons, not, eq-eqb, eqb-true, Option, None, Some}
use Rattle.std.specs.Prelude.{◌&&◌, nat_eq, Result, Ok, Err}
use Rattle.std.specs.Option.{option_eq}
use Rattle.std.proofs.lemmas.Bool.{true≢false, false≢true}
use Rattle.perfdata_identifiers.specs.declared.place.parse_info.RecordIdParseInfo.{RecordIdParseInfo}
use Rattle.std.proofs.lemmas.List.{take_more, map_push, map-append, length-take-le}
use Rattle.std.proofs.lemmas.List.Elements.{All-head, All-tail, All-push, All-cons}
use Rattle.perfdata_identifiers.specs.declared.place.parse_info.RecordParseInfo.{RecordParseInfo}
use Rattle.perfdata_sources.specs.declared.endian.Endianness.{Endianness}
use Rattle.perfdata_sections.specs.AttributeDescription.{attr_in}
use Rattle.perfdata_identifiers.specs.ParseInfo.{id_parse_info_of, parse_info_of}
use Rattle.perfdata_sections.specs.declared.feature_sections.AttributeDescription.{AttributeDescription}
use Rattle.perfdata_sections.specs.declared.error.Error.{Error}
use Rattle.linux_perf_data.specs.Attribute.{Attribute, AreConsistent, ConformsTo, FirstNonconformingAt}
use Rattle.linux_perf_data.specs.Descriptions.{described_attribute, described_attributes, parse_infos_of}
use Rattle.linux_perf_data.specs.steps.Consistency.{SameIdOffsets, ChecksEach, ChecksConsistency}
use Rattle.linux_perf_data.proofs.ConsistencyLemmas.{conforming_is_consistent, agreed}
use Rattle.linux_perf_data.proofs.LookupIds.{described_counted}

take_past : {X : Type 0} (xs : List X) (i : ℕ) → length xs ≤ i → take i xs ≡ xs
take_past [] zero done = refl
take_past [] (suc i) done = refl
take_past (x ∷ xs) zero done = absurd (omega (arith, done))
take_past (x ∷ xs) (suc i) done = ap (λ l. x ∷ l) (take_past xs i (omega (arith, done)))

-- one more attribute
pub all_more : (P : Attribute → Type 0) (ds : List AttributeDescription) (i : ℕ) (d : AttributeDescription) → i < length ds → d ≡ get_or ds i d → P (described_attribute d)
    → All P (described_attributes (take i ds)) → All P (described_attributes (take (i + 1) ds))
all_more P ds i d inside is one all =
    let more : take (i + 1) ds ≡ take i ds ++ d ∷ [] = take_more ds i d inside ∙ ap (λ x. take i ds ++ x ∷ []) (sym is) in
    subst (All P) (sym (ap described_attributes more ∙ map_push described_attribute (take i ds) d)) (All-push P (described_attributes (take i ds)) (described_attribute d) all one)

-- the parse infos of one more attribute
pub infos_more : (order : Endianness) (ds : List AttributeDescription) (i : ℕ) (d : AttributeDescription) (before after : List RecordParseInfo) (info : RecordParseInfo) → i < length ds → d ≡ get_or ds i d → info ≡ parse_info_of (attr_in d) order → after ≡ before ++ info ∷ []
    → before ≡ parse_infos_of order (described_attributes (take i ds)) → after ≡ parse_infos_of order (described_attributes (take (i + 1) ds))
infos_more order ds i d before after info inside is new pushed known =
    let info_of = λ (a : Attribute). parse_info_of a.attr order in
    let more : take (i + 1) ds ≡ take i ds ++ d ∷ [] = take_more ds i d inside ∙ ap (λ x. take i ds ++ x ∷ []) (sym is) in
    let grown = ap (λ l. parse_infos_of order (described_attributes l)) more ∙ ap (map info_of) (map_push described_attribute (take i ds) d) ∙ map_push info_of (described_attributes (take i ds)) (described_attribute d) in
    pushed ∙ (λ k. known k ++ new k ∷ []) ∙ sym grown

pub infos_all : (order : Endianness) (ds : List AttributeDescription) (i : ℕ) (infos : List RecordParseInfo) → length ds ≤ i → infos ≡ parse_infos_of order (described_attributes (take i ds)) → infos ≡ parse_infos_of order (described_attributes ds)
infos_all order ds i infos done known = known ∙ ap (λ l. parse_infos_of order (described_attributes l)) (take_past ds i done)

-- what holds for all attributes holds for each
pub one_of_all : (P : Attribute → Type 0) (ds : List AttributeDescription) (i : ℕ) (d : AttributeDescription) → i < length ds → d ≡ get_or ds i d → All P (described_attributes ds) → P (described_attribute d)
one_of_all P [] i d inside is all = absurd (omega (arith, inside))
one_of_all P (x ∷ ds) zero d inside is all = subst P (ap described_attribute (sym is)) (All-head P (described_attribute x) (described_attributes ds) all)
one_of_all P (x ∷ ds) (suc i) d inside is all = one_of_all P ds i d (omega (arith, inside)) is (All-tail P (described_attribute x) (described_attributes ds) all)

-- the first attribute that is inconsistent
pub inconsistent_here : (first : Attribute) (ds : List AttributeDescription) (i : ℕ) (d : AttributeDescription) (Cause : Attribute → Type 0) → i < length ds → d ≡ get_or ds i d → All (ConformsTo first) (described_attributes (take i ds)) → Cause (described_attribute d)
    → FirstNonconformingAt first (described_attributes ds) i Cause
inconsistent_here first ds i d Cause inside is before reason =
    let next : suc i ≡ i + 1 = omega arith in
    let split : drop i ds ≡ d ∷ drop (i + 1) ds = drop-cons ds i d inside ∙ ap (λ x. x ∷ drop (suc i) ds) (sym is) ∙ ap (λ n. d ∷ drop n ds) next in
    let within : i ≤ length ds = omega (arith, inside) in
    record {
      earlier = described_attributes (take i ds);
      attribute = described_attribute d;
      later = described_attributes (drop (i + 1) ds);
      elements = ap described_attributes (sym (take-append-drop i ds) ∙ ap (λ l. take i ds ++ l) split) ∙ map-append described_attribute (take i ds) (d ∷ drop (i + 1) ds);
      index_matches = described_counted (take i ds) ∙ length-take-le i ds within;
      earlier_conform = before;
      cause = reason;
    }

-- attributes whose ID offsets agree with those of the first are consistent
pub agreeing_is_consistent : (ds : List AttributeDescription) (d : AttributeDescription) → 0 < length ds → d ≡ get_or ds 0 d → SameIdOffsets (described_attribute d) (described_attributes ds) → AreConsistent (described_attributes ds)
agreeing_is_consistent [] d some is same = tt
agreeing_is_consistent (x ∷ ds) d some is same =
    let P = λ (b : Attribute). id_parse_info_of b.attr ≡ id_parse_info_of (described_attribute x).attr in
    All-tail P (described_attribute x) (described_attributes ds) (subst (λ y. SameIdOffsets (described_attribute y) (described_attributes (x ∷ ds))) is same)

all_agree : (x : AttributeDescription) (ds : List AttributeDescription) → AreConsistent (described_attributes (x ∷ ds)) → SameIdOffsets (described_attribute x) (described_attributes (x ∷ ds))
all_agree x ds same_offsets = All-cons (λ b. id_parse_info_of b.attr ≡ id_parse_info_of (described_attribute x).attr) (described_attribute x) (described_attributes ds) refl same_offsets

-- If the ID offsets disagree, the check of each attribute finds an inconsistency. Otherwise they would agree.
pub disagreeing_is_inconsistent : {A : Type 0} (ds : List AttributeDescription) (d : AttributeDescription) (r : Result A Error) → 0 < length ds → d ≡ get_or ds 0 d → (¬ SameIdOffsets (described_attribute d) (described_attributes ds)) → ChecksEach (described_attribute d) (described_attributes ds) r
    → ChecksConsistency (described_attributes ds) r
disagreeing_is_inconsistent [] d (Ok _) some is apart each = tt
disagreeing_is_inconsistent [] d (Err e) some is apart each = absurd (omega (arith, some))
disagreeing_is_inconsistent (x ∷ ds) d (Ok _) some is apart each = conforming_is_consistent (described_attribute x) (described_attributes ds) (subst (λ y. All (ConformsTo (described_attribute y)) (described_attributes (x ∷ ds))) is each)
disagreeing_is_inconsistent {A = A} (x ∷ ds) d (Err e) some is apart each =
    let here = subst (λ y. ChecksEach {A = A} (described_attribute y) (described_attributes (x ∷ ds)) (Err e)) is each in
    (here.0, ((λ same_offsets. apart (subst (λ y. SameIdOffsets (described_attribute y) (described_attributes (x ∷ ds))) (sym is) (all_agree x ds same_offsets))), here.1), here.2)

pub all_consumed : (P : Attribute → Type 0) (ds : List AttributeDescription) (i : ℕ) → length ds ≤ i → All P (described_attributes (take i ds)) → All P (described_attributes ds)
all_consumed P ds i done all = subst (λ l. All P (described_attributes l)) (take_past ds i done) all

-- A successful comparison of two offsets makes them equal.

same_options : (p q : Option ℕ) → option_eq nat_eq p q ≡ true → p ≡ q
same_options None None e = refl
same_options None (Some n) e = absurd (false≢true e)
same_options (Some m) None e = absurd (false≢true e)
same_options (Some m) (Some n) e = ap Some (eqb-true m n e)

own_options : (p : Option ℕ) → option_eq nat_eq p p ≡ true
own_options None = refl
own_options (Some m) = eq-eqb m m refl

both_true : (a b : Bool) → not (a && b) ≡ false → (a ≡ true) × (b ≡ true)
both_true true true e = (refl, refl)
both_true true false e = absurd (true≢false e)
both_true false b e = absurd (true≢false e)

pub offsets_equal : (p q : RecordIdParseInfo) → not (option_eq nat_eq p.sample_id_from_start q.sample_id_from_start && option_eq nat_eq p.other_id_from_end q.other_id_from_end) ≡ false → p ≡ q
offsets_equal p q e =
    let both = both_true (option_eq nat_eq p.sample_id_from_start q.sample_id_from_start) (option_eq nat_eq p.other_id_from_end q.other_id_from_end) e in
    agreed p q (same_options p.sample_id_from_start q.sample_id_from_start both.0) (same_options p.other_id_from_end q.other_id_from_end both.1)

pub offsets_apart : (p q : RecordIdParseInfo) → not (option_eq nat_eq p.sample_id_from_start q.sample_id_from_start && option_eq nat_eq p.other_id_from_end q.other_id_from_end) ≡ true → p ≢ q
offsets_apart p q e same =
    let starts : option_eq nat_eq p.sample_id_from_start q.sample_id_from_start ≡ true = ap (λ r. option_eq nat_eq p.sample_id_from_start r.sample_id_from_start) (sym same) ∙ own_options p.sample_id_from_start in
    let ends : option_eq nat_eq p.other_id_from_end q.other_id_from_end ≡ true = ap (λ r. option_eq nat_eq p.other_id_from_end r.other_id_from_end) (sym same) ∙ own_options p.other_id_from_end in
    false≢true (sym (ap (λ b. not (b && true)) starts) ∙ sym (ap (λ b. not (option_eq nat_eq p.sample_id_from_start q.sample_id_from_start && b)) ends) ∙ e)
