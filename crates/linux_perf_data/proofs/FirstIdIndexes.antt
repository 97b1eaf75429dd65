-- The index of attributes by their first ids, as attributes are added and renamed.
use Rattle.std.proofs.Common.{◌≡◌, ◌==◌, ℕ, zero, suc, ◌+◌, ◌<◌, ◌≤◌, Bool, true, false, List, [], ◌∷◌, ◌++◌, length, map, get_or, refl, sym, ap, ◌∙◌, subst, arith, inl, inr, eqb-true, length-append, Option, None, Some}
use Rattle.std.specs.Prelude.{cond, if◌then◌else◌}
use Rattle.std.specs.BTreeMap.{get, is_at}
use Rattle.std.specs.Map.{lookup}
use Rattle.std.specs.Ordering.{nat_cmp}
use Rattle.std.proofs.lemmas.Bool.{cases_Bool, cases_eq}
use Rattle.std.proofs.lemmas.List.{get_or_append_left, get_or_push, length_push, map_push}
use Rattle.perfdata_sections.specs.AttributeDescription.{ids_in}
use Rattle.perfdata_sections.specs.declared.feature_sections.AttributeDescription.{AttributeDescription}
use Rattle.linux_perf_data.specs.Attribute.{Attribute}
use Rattle.linux_perf_data.specs.Descriptions.{described_attributes}
use Rattle.linux_perf_data.specs.FirstIdIndex.{IndexesAttributes, has_first_id, id_lists_of, last_with_first_id}
use Rattle.linux_perf_data.specs.Names.{same_first_id}
use Rattle.linux_perf_data.specs.declared.attributes.first_id_index.FirstIdIndex.{FirstIdIndex}
use Rattle.linux_perf_data.proofs.NameTables.{at_is}

-- ---- the last attribute with a first id

pub record IsLastWith (lists : List (List ℕ)) (id n i : ℕ) : Type 0 where
  pub below : i < n
  pub has : has_first_id lists id i ≡ true
  pub after : (k : ℕ) → i < k → k < n → has_first_id lists id k ≡ false

some_same : (n i : ℕ) → Some n ≡ Some i → n ≡ i
some_same n i same = cc

none_some : (i : ℕ) → ◌≡◌ {A = Option ℕ} None (Some i) → ⊥
none_some i same = cc

pub last_found : (lists : List (List ℕ)) (id n i : ℕ) → last_with_first_id lists id n ≡ Some i → IsLastWith lists id n i
last_found lists id zero i is = absurd (none_some i is)
last_found lists id (suc n) i is = elim (cases_Bool (has_first_id lists id n)) [
  | inl same ↦
      let own : n ≡ i = some_same n i (sym (ap (λ b. if b then Some n else last_with_first_id lists id n) same) ∙ is) in record {
        below = omega (arith, own);
        has = subst (λ j. has_first_id lists id j ≡ true) own same;
        after = λ k more less. absurd (omega (arith, own, more, less));
      }
  | inr other ↦
      let f = last_found lists id n i (sym (ap (λ b. if b then Some n else last_with_first_id lists id n) other) ∙ is) in
      let low = f.below in record {
        below = omega (arith, low);
        has = f.has;
        after = λ k more less. elim (cases_eq k n) [
          | inl same ↦ subst (λ j. has_first_id lists id j ≡ false) (sym same) other
          | inr apart ↦ f.after k more (omega (arith, less, apart))
        ];
      }
]

pub last_missed : (lists : List (List ℕ)) (id n : ℕ) → last_with_first_id lists id n ≡ None → (k : ℕ) → k < n → has_first_id lists id k ≡ false
last_missed lists id zero is k less = absurd (omega (arith, less))
last_missed lists id (suc n) is k less = elim (cases_Bool (has_first_id lists id n)) [
  | inl same ↦ absurd (none_some n (sym is ∙ ap (λ b. if b then Some n else last_with_first_id lists id n) same))
  | inr other ↦ elim (cases_eq k n) [
    | inl own ↦ subst (λ j. has_first_id lists id j ≡ false) (sym own) other
    | inr apart ↦ last_missed lists id n (sym (ap (λ b. if b then Some n else last_with_first_id lists id n) other) ∙ is) k (omega (arith, less, apart))
  ]
]

-- ---- one more attribute

pub index_none : (x : FirstIdIndex) (lists : List (List ℕ)) → x.last.entries ≡ [] → x.previous.items ≡ [] → IndexesAttributes x lists
index_none x lists no_last none =
    let empty : length x.previous.items ≡ 0 = ap length none in record {
      in_bounds = omega (arith, empty);
      last = λ id. ap (λ (es : List (ℕ × ℕ)). lookup (is_at (nat_cmp id)) es) no_last ∙ sym (ap (last_with_first_id lists id) empty);
      previous = λ id k less has. absurd (omega (arith, empty, less));
    }

pub index_more : (old new : FirstIdIndex) (lists : List (List ℕ)) (p : Option ℕ) → length old.previous.items < length lists → new.previous.items ≡ old.previous.items ++ p ∷ []
    → ((id : ℕ) → get nat_cmp new.last id ≡ (if has_first_id lists id (length old.previous.items) then Some (length old.previous.items) else get nat_cmp old.last id))
    → ((id : ℕ) → has_first_id lists id (length old.previous.items) ≡ true → p ≡ get nat_cmp old.last id) → IndexesAttributes old lists → IndexesAttributes new lists
index_more old new lists p there items last previous x =
    let n = length old.previous.items in
    let pushed : length (old.previous.items ++ p ∷ []) ≡ n + 1 = length_push old.previous.items p in
    let counts : length new.previous.items ≡ length (old.previous.items ++ p ∷ []) = ap length items in
    let grown : length new.previous.items ≡ suc n = omega (arith, pushed, counts) in record {
      in_bounds = omega (arith, there, grown);
      last = λ id. last id ∙ ap (λ o. if has_first_id lists id n then Some n else o) (x.last id) ∙ sym (ap (last_with_first_id lists id) grown);
      previous = λ id k less has. elim (cases_eq k n) [
        | inl at ↦
            let here : has_first_id lists id n ≡ true = subst (λ j. has_first_id lists id j ≡ true) at has in
            ap (λ l. get_or l k None) items ∙ get_or_push old.previous.items p None k (sym at) ∙ previous id here ∙ x.last id ∙ ap (last_with_first_id lists id) (sym at)
        | inr apart ↦
            let low : k < n = omega (arith, less, grown, apart) in
            ap (λ l. get_or l k None) items ∙ get_or_append_left old.previous.items (p ∷ []) None k low ∙ x.previous id k low has
      ];
    }

first_tests : (ids : List ℕ) (first id : ℕ) → 0 < length ids → first ≡ get_or ids 0 0 → same_first_id ids (id ∷ []) ≡ (first == id)
first_tests [] first id some is = absurd (omega (arith, some))
first_tests (x ∷ xs) first id some is = ap (λ n. n == id) (sym is)

equal_of : (x y : ℕ) → (x == y) ≡ true → x ≡ y
equal_of x y is = eqb-true x y is

-- an attribute with a first id
pub index_more_with : (old new : FirstIdIndex) (lists : List (List ℕ)) (ids : List ℕ) (first : ℕ) (p : Option ℕ) → 0 < length ids → first ≡ get_or ids 0 0 → get_or lists (length old.previous.items) [] ≡ ids → length old.previous.items < length lists
    → new.previous.items ≡ old.previous.items ++ p ∷ [] → p ≡ get nat_cmp old.last first → ((q : ℕ) → get nat_cmp new.last q ≡ cond (is_at (nat_cmp first) q) (Some (length old.previous.items)) (get nat_cmp old.last q)) → IndexesAttributes old lists → IndexesAttributes new lists
index_more_with old new lists ids first p some first_is is there items p_is put x =
    let n = length old.previous.items in
    let tests : (id : ℕ) → has_first_id lists id n ≡ (first == id) = λ id. ap (λ l. same_first_id l (id ∷ [])) is ∙ first_tests ids first id some first_is in
    index_more old new lists p there items (λ id. put id ∙ ap (λ b. if b then Some n else get nat_cmp old.last id) (at_is first id ∙ sym (tests id)))
    (λ id has. p_is ∙ ap (get nat_cmp old.last) (equal_of first id (sym (tests id) ∙ has))) x

-- ---- more attributes than it contains

has_grown : (lists more : List (List ℕ)) (id k : ℕ) → k < length lists → has_first_id (lists ++ more) id k ≡ has_first_id lists id k
has_grown lists more id k less = ap (λ l. same_first_id l (id ∷ [])) (get_or_append_left lists more [] k less)

last_grown : (lists more : List (List ℕ)) (id n : ℕ) → n ≤ length lists → last_with_first_id (lists ++ more) id n ≡ last_with_first_id lists id n
last_grown lists more id zero less = refl
last_grown lists more id (suc n) less =
    ap (λ b. if b then Some n else last_with_first_id (lists ++ more) id n) (has_grown lists more id n (omega (arith, less)))
    ∙ ap (λ o. if has_first_id lists id n then Some n else o) (last_grown lists more id n (omega (arith, less)))

index_grown : (x : FirstIdIndex) (lists more : List (List ℕ)) → IndexesAttributes x lists → IndexesAttributes x (lists ++ more)
index_grown x lists more is =
    let bound = is.in_bounds in record {
      in_bounds = omega (arith, bound, length-append lists more);
      last = λ id. is.last id ∙ sym (last_grown lists more id (length x.previous.items) bound);
      previous = λ id k less has. is.previous id k less (sym (has_grown lists more id k (omega (arith, less, bound))) ∙ has) ∙ sym (last_grown lists more id k (omega (arith, less, bound)));
    }

pub index_pushed : (x : FirstIdIndex) (b : Bool) (before items : List AttributeDescription) (d : AttributeDescription) → items ≡ (if b then before ++ d ∷ [] else before) → IndexesAttributes x (id_lists_of before) → IndexesAttributes x (id_lists_of items)
index_pushed x true before items d is indexes = subst (IndexesAttributes x) (sym (ap id_lists_of is ∙ map_push ids_in before d)) (index_grown x (id_lists_of before) (ids_in d ∷ []) indexes)
index_pushed x false before items d is indexes = subst (IndexesAttributes x) (sym (ap id_lists_of is)) indexes

-- ---- other names

ids_described : (ds : List AttributeDescription) → id_lists_of ds ≡ map (λ (a : Attribute). a.ids) (described_attributes ds)
ids_described [] = refl
ids_described (d ∷ ds) = ap (λ l. ids_in d ∷ l) (ids_described ds)

pub same_id_lists : (old new : List AttributeDescription) → described_attributes new ≡ described_attributes old → id_lists_of new ≡ id_lists_of old
same_id_lists old new same = ids_described new ∙ ap (map (λ (a : Attribute). a.ids)) same ∙ sym (ids_described old)

pub index_renamed : (x : FirstIdIndex) (old new : List AttributeDescription) → described_attributes new ≡ described_attributes old → IndexesAttributes x (id_lists_of old) → IndexesAttributes x (id_lists_of new)
index_renamed x old new same is = subst (IndexesAttributes x) (sym (same_id_lists old new same)) is
