-- The index of an identifier: by the order of attributes, of unsorted ID pairs and of sorted ones.
use Rattle.std.proofs.Common.{◌≡◌, ◌≢◌, ◌==◌, ℕ, zero, suc, ◌+◌, ◌<◌, ◌≤◌, ◌++◌, max, List, [], ◌∷◌, Bool, true, false, length, get_or, drop, map, take, All, refl, sym, ap, ◌∙◌, subst, arith, inl, inr, append_assoc, append-nil, length-append, drop-cons, eq-eqb}
use Rattle.std.specs.Prelude.{◌⊎◌, if◌then◌else◌, Option, None, Some}
use Rattle.std.specs.List.Sorted.{IsPermutation}
use Rattle.std.specs.Option.{option_or, unwrap_or}
use Rattle.std.proofs.lemmas.Bool.{cases_eq, cases_order, cases_Bool, ne_eqb}
use Rattle.std.proofs.lemmas.List.Elements.{All-nil, All-cons, All-head, All-tail, All-weaker}
use Rattle.std.proofs.Math.Seq.{get_or-append_seam}
use Rattle.std.proofs.Math.ListN.{get_or-append}
use Rattle.std.proofs.lemmas.List.{drop_all, take_all, map_more}
use Rattle.std.proofs.lemmas.List.Quantifiers.{all_pairs_push}
use Rattle.std.proofs.lemmas.List.Sorted.{All-permutation, IsPermutation-sym}
use Rattle.perfdata_sections.specs.AttributeDescription.{ids_in}
use Rattle.perfdata_sections.specs.declared.feature_sections.AttributeDescription.{AttributeDescription}
use Rattle.linux_perf_data.specs.Descriptions.{described_attributes}
use Rattle.linux_perf_data.specs.Attribute.{Attribute, lists_id, last_index_listing}
use Rattle.linux_perf_data.specs.IdPairs.{index_of_id, AreAscending}
use Rattle.linux_perf_data.specs.steps.IdPairs.{last_index_of_id, id_pairs_of, rank_of_id, AreOrdered, key_at, IsInsertionPoint}

abbrev pub Pairs : Type 0
Pairs = List (ℕ × ℕ)

-- the rank of an identifier in one pair
abbrev rank_of_pair : ℕ → ℕ × ℕ → ℕ
rank_of_pair id p = if p.0 == id then p.1 + 1 else 0

-- the index of a rank
abbrev pub index_by : ℕ → Option ℕ
index_by zero = None
index_by (suc n) = Some n

rank_of_same_id : (id : ℕ) (p : ℕ × ℕ) → p.0 ≡ id → rank_of_pair id p ≡ p.1 + 1
rank_of_same_id id p is = ap (λ b. if b then p.1 + 1 else 0) (eq-eqb p.0 id is)

rank_of_other_id : (id : ℕ) (p : ℕ × ℕ) → p.0 ≢ id → rank_of_pair id p ≡ 0
rank_of_other_id id p other = ap (λ b. if b then p.1 + 1 else 0) (ne_eqb p.0 id other)

bound_all : (id n : ℕ) (xs : Pairs) → rank_of_id id xs ≤ n → All (λ p. rank_of_pair id p ≤ n) xs
bound_all id n [] le = All-nil (λ p. rank_of_pair id p ≤ n)
bound_all id n (p ∷ ps) le =
    let first_le : rank_of_pair id p ≤ n = omega (arith, le) in
    All-cons (λ p. rank_of_pair id p ≤ n) p ps first_le (bound_all id n ps (omega (arith, le)))

all_bound : (id n : ℕ) (xs : Pairs) → All (λ p. rank_of_pair id p ≤ n) xs → rank_of_id id xs ≤ n
all_bound id n [] all = omega arith
all_bound id n (p ∷ ps) all =
    let first_le : rank_of_pair id p ≤ n = All-head (λ p. rank_of_pair id p ≤ n) p ps all in
    let rest = all_bound id n ps (All-tail (λ p. rank_of_pair id p ≤ n) p ps all) in
    omega (arith, first_le, rest)

rank_at_most : (id : ℕ) (xs ys : Pairs) → IsPermutation xs ys → rank_of_id id ys ≤ rank_of_id id xs
rank_at_most id xs ys moved = all_bound id (rank_of_id id xs) ys (All-permutation (λ p. rank_of_pair id p ≤ rank_of_id id xs) xs ys moved (bound_all id (rank_of_id id xs) xs (omega arith)))

-- a permutation of the pairs leaves the rank unchanged
pub rank_permuted : (id : ℕ) (xs ys : Pairs) → IsPermutation xs ys → rank_of_id id ys ≡ rank_of_id id xs
rank_permuted id xs ys moved = omega (arith, rank_at_most id xs ys moved, rank_at_most id ys xs (IsPermutation-sym xs ys moved))

rank_append : (id : ℕ) (xs ys : Pairs) → rank_of_id id (xs ++ ys) ≡ max (rank_of_id id xs) (rank_of_id id ys)
rank_append id [] ys = omega arith
rank_append id (p ∷ ps) ys = omega (arith, rank_append id ps ys)

rank_of_pair_le : (id : ℕ) (p q : ℕ × ℕ) → p.0 ≡ q.0 → p.1 ≤ q.1 → rank_of_pair id p ≤ rank_of_pair id q
rank_of_pair_le id p q same less = elim (cases_eq p.0 id) [
  | inl is ↦ omega (arith, rank_of_same_id id p is, rank_of_same_id id q (sym same ∙ is), less)
  | inr other ↦ omega (arith, rank_of_other_id id p other)
]

-- A pair that precedes another of the same identifier, whose index isn't lower, leaves the rank unchanged.
pub rank_skipped : (id : ℕ) (prefix rest : Pairs) (p q : ℕ × ℕ) → p.0 ≡ q.0 → p.1 ≤ q.1 → rank_of_id id (prefix ++ p ∷ q ∷ rest) ≡ rank_of_id id (prefix ++ q ∷ rest)
rank_skipped id prefix rest p q same less =
    omega (arith, rank_append id prefix (p ∷ q ∷ rest), rank_append id prefix (q ∷ rest), rank_of_pair_le id p q same less)

-- If each identifier occurs once in the pairs, its rank determines its index.

pub ascend_first : (p : ℕ × ℕ) (ps : Pairs) → AreAscending (p ∷ ps) → All (λ q. p.0 < q.0) ps
ascend_first p ps up = λ k d inside. up 0 (suc k) d (omega arith) (omega (arith, inside))

pub ascend_rest : (p : ℕ × ℕ) (ps : Pairs) → AreAscending (p ∷ ps) → AreAscending ps
ascend_rest p ps up = λ i j d before inside. up (suc i) (suc j) d (omega (arith, before)) (omega (arith, inside))

rank_none : (id : ℕ) (ps : Pairs) → All (λ q. q.0 ≢ id) ps → rank_of_id id ps ≡ 0
rank_none id ps others =
    let too_few : rank_of_id id ps ≤ 0 = all_bound id 0 ps (All-weaker (λ q. q.0 ≢ id) (λ q. rank_of_pair id q ≤ 0) (λ q other. omega (arith, rank_of_other_id id q other)) ps others) in
    omega (arith, too_few)

pub index_ranked : (id : ℕ) (ps : Pairs) → AreAscending ps → index_of_id id ps ≡ index_by (rank_of_id id ps)
index_ranked id [] up = refl
index_ranked id (p ∷ ps) up = elim (cases_eq p.0 id) [
  | inl is ↦
      let none : rank_of_id id ps ≡ 0 = rank_none id ps (All-weaker (λ q. p.0 < q.0) (λ q. q.0 ≢ id) (λ q above same. absurd (omega (arith, above, same, is))) ps (ascend_first p ps up)) in
      let all : rank_of_id id (p ∷ ps) ≡ suc p.1 = omega (arith, rank_of_same_id id p is, none) in
      ap (λ b. if b then Some p.1 else index_of_id id ps) (eq-eqb p.0 id is) ∙ sym (ap index_by all)
  | inr other ↦
      let all : rank_of_id id (p ∷ ps) ≡ rank_of_id id ps = omega (arith, rank_of_other_id id p other) in
      ap (λ b. if b then Some p.1 else index_of_id id ps) (ne_eqb p.0 id other) ∙ index_ranked id ps (ascend_rest p ps up) ∙ sym (ap index_by all)
]

-- The pairs of attributes.

rank_ids : (id i : ℕ) (ids : List ℕ) → rank_of_id id (map (λ x. (x, i)) ids) ≡ (if lists_id id ids then i + 1 else 0)
rank_ids id i [] = refl
rank_ids id i (x ∷ xs) = elim (cases_eq x id) [
  | inl is ↦
      let own = rank_of_same_id id (x, i) is in
      let rest = rank_ids id i xs in
      let too_few : rank_of_id id (map (λ x. (x, i)) xs) ≤ i + 1 = elim (cases_Bool (lists_id id xs)) [
        | inl listed ↦ omega (arith, rest, ap (λ b. if b then i + 1 else 0) listed)
        | inr unlisted ↦ omega (arith, rest, ap (λ b. if b then i + 1 else 0) unlisted)
      ] in
      let all : rank_of_id id (map (λ x. (x, i)) (x ∷ xs)) ≡ i + 1 = omega (arith, own, too_few) in
      all ∙ sym (ap (λ b. if (if b then true else lists_id id xs) then i + 1 else 0) (eq-eqb x id is))
  | inr other ↦
      let all : rank_of_id id (map (λ x. (x, i)) (x ∷ xs)) ≡ rank_of_id id (map (λ x. (x, i)) xs) = omega (arith, rank_of_other_id id (x, i) other) in
      all ∙ rank_ids id i xs ∙ sym (ap (λ b. if (if b then true else lists_id id xs) then i + 1 else 0) (ne_eqb x id other))
]

rank_step : (id i : ℕ) (a : Attribute) (more : List Attribute) → rank_of_id id (id_pairs_of i (a ∷ more)) ≡ max (if lists_id id a.ids then i + 1 else 0) (rank_of_id id (id_pairs_of (i + 1) more))
rank_step id i a more = rank_append id (map (λ x. (x, i)) a.ids) (id_pairs_of (i + 1) more) ∙ ap (λ n. max n (rank_of_id id (id_pairs_of (i + 1) more))) (rank_ids id i a.ids)

pick_late : (b : Bool) (i m : ℕ) → (m ≡ 0) ⊎ (i + 1 < m) → (max (if b then i + 1 else 0) m ≡ 0) ⊎ (i < max (if b then i + 1 else 0) m)
pick_late true i m late = inr (omega arith)
pick_late false i m (inl none) = inl (omega (arith, none))
pick_late false i m (inr some) = inr (omega (arith, some))

-- the rank in pairs whose indices start at i is 0 or above i
rank_late : (id i : ℕ) (attrs : List Attribute) → (rank_of_id id (id_pairs_of i attrs) ≡ 0) ⊎ (i < rank_of_id id (id_pairs_of i attrs))
rank_late id i [] = inl refl
rank_late id i (a ∷ more) =
    let later = pick_late (lists_id id a.ids) i (rank_of_id id (id_pairs_of (i + 1) more)) (rank_late id (i + 1) more) in
    subst (λ n. (n ≡ 0) ⊎ (i < n)) (sym (rank_step id i a more)) later

or_none : (m : ℕ) → option_or (index_by m) None ≡ index_by m
or_none zero = refl
or_none (suc m) = refl

pick : (b : Bool) (i m : ℕ) → (m ≡ 0) ⊎ (i + 1 < m) → index_by (max (if b then i + 1 else 0) m) ≡ option_or (index_by m) (if b then Some i else None)
pick false i m late = (let same : max 0 m ≡ m = omega arith in ap index_by same) ∙ sym (or_none m)
pick true i zero late = let same : max (i + 1) 0 ≡ suc i = omega arith in ap index_by same
pick true i (suc m) (inl none) = absurd (omega (arith, none))
pick true i (suc m) (inr some) = let same : max (i + 1) (suc m) ≡ suc m = omega (arith, some) in ap index_by same

-- the rank of an identifier is that of the last attribute that lists it
pub index_listed : (id i : ℕ) (attrs : List Attribute) → index_by (rank_of_id id (id_pairs_of i attrs)) ≡ last_index_of_id id i attrs
index_listed id i [] = refl
index_listed id i (a ∷ more) =
    ap index_by (rank_step id i a more)
    ∙ pick (lists_id id a.ids) i (rank_of_id id (id_pairs_of (i + 1) more)) (rank_late id (i + 1) more)
    ∙ ap (λ o. option_or o (if lists_id id a.ids then Some i else None)) (index_listed id (i + 1) more)

or_best : (o : Option ℕ) (b : Bool) (i best : ℕ) → unwrap_or o (if b then i else best) ≡ unwrap_or (option_or o (if b then Some i else None)) best
or_best (Some k) b i best = refl
or_best None true i best = refl
or_best None false i best = refl

-- the greatest index is that of the last attribute that lists the identifier
pub greatest_listed : (id i best : ℕ) (attrs : List Attribute) → last_index_listing id i best attrs ≡ unwrap_or (last_index_of_id id i attrs) best
greatest_listed id i best [] = refl
greatest_listed id i best (a ∷ more) = greatest_listed id (i + 1) (if lists_id id a.ids then i else best) more ∙ or_best (last_index_of_id id (i + 1) more) (lists_id id a.ids) i best

-- each index is in bounds
within_step : (o : Option ℕ) (b : Bool) (i n k : ℕ) → ((k : ℕ) → o ≡ Some k → k < i + 1 + n) → option_or o (if b then Some i else None) ≡ Some k → k < i + suc n
within_step (Some m) b i n k inside is = let low = inside k is in omega (arith, low)
within_step None true i n k inside is = let same : i ≡ k = cc in omega (arith, same)
within_step None false i n k inside is = absurd (let off : ◌≡◌ {A = Option ℕ} None (Some k) = is in cc)

pub listed_within : (id i : ℕ) (attrs : List Attribute) (k : ℕ) → last_index_of_id id i attrs ≡ Some k → k < i + length attrs
listed_within id i [] k is = absurd (let off : ◌≡◌ {A = Option ℕ} None (Some k) = is in cc)
listed_within id i (a ∷ more) k is = within_step (last_index_of_id id (i + 1) more) (lists_id id a.ids) i (length more) k (listed_within id (i + 1) more) is

-- The last pairs of identifiers, for a prefix of sorted pairs.

drop_next : (ps : Pairs) (i : ℕ) → i < length ps → drop i ps ≡ get_or ps i (0, 0) ∷ drop (i + 1) ps
drop_next ps i inside = let next : suc i ≡ i + 1 = omega arith in drop-cons ps i (0, 0) inside ∙ ap (λ n. get_or ps i (0, 0) ∷ drop n ps) next

pub record LastSoFar (ordered last : Pairs) (at : ℕ) : Type 0 where
  pub ranks : (id : ℕ) → rank_of_id id (last ++ drop at ordered) ≡ rank_of_id id ordered
  pub up : AreAscending last
  pub below : at < length ordered → (k : ℕ) (d : ℕ × ℕ) → k < length last → (get_or last k d).0 < key_at ordered at

pub last_none : (ordered : Pairs) → LastSoFar ordered [] 0
last_none ordered = record { ranks = λ id. refl; up = λ i j d before inside. absurd (omega (arith, inside)); below = λ more k d inside. absurd (omega (arith, inside)) }

pub last_skipped : (ordered last : Pairs) (at : ℕ) → AreOrdered ordered → at < length ordered → (at + 1 < length ordered) × (key_at ordered at ≡ key_at ordered (at + 1)) → LastSoFar ordered last at → LastSoFar ordered last (at + 1)
last_skipped ordered last at kept more (next, same) so =
    let p = get_or ordered at (0, 0) in
    let q = get_or ordered (at + 1) (0, 0) in
    let split : drop at ordered ≡ p ∷ drop (at + 1) ordered = drop_next ordered at more in
    let split' : drop (at + 1) ordered ≡ q ∷ drop (at + 1 + 1) ordered = drop_next ordered (at + 1) next in
    let less = (kept at (0, 0) next).1 same in
    record {
      ranks = λ id.
          ap (λ l. rank_of_id id (last ++ l)) split' ∙ sym (rank_skipped id last (drop (at + 1 + 1) ordered) p q same less)
          ∙ sym (ap (λ l. rank_of_id id (last ++ l)) (split ∙ ap (λ l. p ∷ l) split')) ∙ so.ranks id;
      up = so.up;
      below = λ _ k d inside. let low = so.below more k d inside in omega (arith, low, same);
    }

pub last_pushed : (ordered last : Pairs) (at : ℕ) → AreOrdered ordered → at < length ordered → (at + 1 < length ordered → key_at ordered at ≢ key_at ordered (at + 1)) → LastSoFar ordered last at
    → LastSoFar ordered (last ++ get_or ordered at (0, 0) ∷ []) (at + 1)
last_pushed ordered last at kept more apart so =
    let p = get_or ordered at (0, 0) in
    let split : drop at ordered ≡ p ∷ drop (at + 1) ordered = drop_next ordered at more in
    record {
      ranks = λ id. ap (rank_of_id id) (append_assoc last (p ∷ []) (drop (at + 1) ordered) ∙ ap (λ l. last ++ l) (sym split)) ∙ so.ranks id;
      up = all_pairs_push (λ p q. p.0 < q.0) last p so.up (so.below more);
      below = λ next k d inside.
          let less : key_at ordered at ≤ key_at ordered (at + 1) = (kept at (0, 0) next).0 in
          let other = apart next in
          elim (cases_order k (length last)) [
            | inl is ↦
                let own : (get_or (last ++ p ∷ []) k d) ≡ p = ap (λ i. get_or (last ++ p ∷ []) i d) is ∙ get_or-append_seam last p [] d in
                omega (arith, ap (λ x. x.0) own, less, other)
            | inr (inl low) ↦
                let before = so.below more k d low in
                let own : get_or (last ++ p ∷ []) k d ≡ get_or last k d = get_or-append last (p ∷ []) d k low in
                omega (arith, ap (λ x. x.0) own, before, less)
            | inr (inr high) ↦ absurd (omega (arith, high, inside, length-append last (p ∷ [])))
          ];
    }

pub last_all : (ordered last : Pairs) (at : ℕ) → length ordered ≤ at → LastSoFar ordered last at → AreAscending last × ((id : ℕ) → rank_of_id id last ≡ rank_of_id id ordered)
last_all ordered last at done so = (so.up, λ id. sym (ap (λ l. rank_of_id id l) (ap (λ l. last ++ l) (drop_all at ordered done) ∙ append-nil last)) ∙ so.ranks id)

-- Bisection.

-- The pair at an index in bounds doesn't depend on the default value.
pub pair_there : (ps : Pairs) (m : ℕ) (p : ℕ × ℕ) → m < length ps → p ≡ get_or ps m p → p ≡ get_or ps m (0, 0)
pair_there [] m p inside is = absurd (omega (arith, inside))
pair_there (q ∷ ps) zero p inside is = is
pair_there (q ∷ ps) (suc m) p inside is = pair_there ps m p (omega (arith, inside)) is

pub index_at : (id : ℕ) (ps : Pairs) (m : ℕ) → AreAscending ps → m < length ps → key_at ps m ≡ id → index_of_id id ps ≡ Some (get_or ps m (0, 0)).1
index_at id [] m up inside is = absurd (omega (arith, inside))
index_at id (p ∷ ps) zero up inside is = ap (λ b. if b then Some p.1 else index_of_id id ps) (eq-eqb p.0 id is)
index_at id (p ∷ ps) (suc m) up inside is =
    let above : p.0 < key_at ps m = ascend_first p ps up m (0, 0) (omega (arith, inside)) in
    ap (λ b. if b then Some p.1 else index_of_id id ps) (ne_eqb p.0 id (λ same. omega (arith, above, is, same))) ∙ index_at id ps m (ascend_rest p ps up) (omega (arith, inside)) is

pub index_none : (id : ℕ) (ps : Pairs) → ((k : ℕ) → k < length ps → key_at ps k ≢ id) → index_of_id id ps ≡ None
index_none id [] others = refl
index_none id (p ∷ ps) others =
    ap (λ b. if b then Some p.1 else index_of_id id ps) (ne_eqb p.0 id (others 0 (omega arith))) ∙ index_none id ps (λ k inside. others (suc k) (omega (arith, inside)))

-- the keys before a low index are lower, and those after a high index are higher
pub key_below : (ps : Pairs) (i j : ℕ) → AreAscending ps → i ≤ j → j < length ps → key_at ps i ≤ key_at ps j
key_below ps i j up before inside = elim (cases_order i j) [
  | inl is ↦ omega (arith, ap (key_at ps) is)
  | inr (inl low) ↦ (let less = up i j (0, 0) low inside in omega (arith, less))
  | inr (inr high) ↦ absurd (omega (arith, high, before))
]

-- the insertion point lies between low and high
pub record Halved (ps : Pairs) (id low high : ℕ) : Type 0 where
  pub order : low ≤ high
  pub within : high ≤ length ps
  pub below : (k : ℕ) → k < low → key_at ps k < id
  pub above : (k : ℕ) → high ≤ k → k < length ps → id ≤ key_at ps k

pub bisected_up : (ps : Pairs) (id low high middle : ℕ) → AreAscending ps → low ≤ middle → middle < high → key_at ps middle < id → Halved ps id low high → Halved ps id (middle + 1) high
bisected_up ps id low high middle up from to less h =
    let within = h.within in record {
      order = omega (arith, to);
      within = within;
      below = λ k before. (let lower = key_below ps k middle up (omega (arith, before)) (omega (arith, to, within)) in omega (arith, lower, less));
      above = h.above;
    }

pub bisected_down : (ps : Pairs) (id low high middle : ℕ) → AreAscending ps → low ≤ middle → middle < high → id ≤ key_at ps middle → Halved ps id low high → Halved ps id low middle
bisected_down ps id low high middle up from to more h =
    let within = h.within in record {
      order = from;
      within = omega (arith, to, within);
      below = h.below;
      above = λ k after inside. (let higher = key_below ps middle k up after inside in omega (arith, higher, more));
    }

pub bisected_insertion_point : (ps : Pairs) (id low high : ℕ) → high ≤ low → Halved ps id low high → IsInsertionPoint ps id low
bisected_insertion_point ps id low high met h =
    let order = h.order in
    let within = h.within in record {
      in_bounds = omega (arith, order, within);
      below = h.below;
      above = λ k after inside. h.above k (omega (arith, after, met)) inside;
    }

-- an identifier that isn't at its insertion point isn't in the pairs
pub insertion_point_none : (ps : Pairs) (id at : ℕ) → AreAscending ps → IsInsertionPoint ps id at → (at < length ps → key_at ps at ≢ id) → index_of_id id ps ≡ None
insertion_point_none ps id at up point other = index_none id ps (λ k inside is. elim (cases_order k at) [
  | inl same ↦ other (omega (arith, same, inside)) (ap (key_at ps) (sym same) ∙ is)
  | inr (inl before) ↦ (let below = point.below k before in omega (arith, below, is))
  | inr (inr after) ↦ (let less = up at k (0, 0) after inside in let above = point.above at (omega arith) (omega (arith, after, inside)) in omega (arith, above, less, is))
])

-- The pairs of a prefix of the attributes.

pub pairs_more : (ds : List AttributeDescription) (i : ℕ) (d : AttributeDescription) (before after : Pairs) → i < length ds → d ≡ get_or ds i d → after ≡ before ++ map (λ id. (id, i)) (ids_in d)
    → before ++ id_pairs_of i (described_attributes (drop i ds)) ≡ id_pairs_of 0 (described_attributes ds) → after ++ id_pairs_of (i + 1) (described_attributes (drop (i + 1) ds)) ≡ id_pairs_of 0 (described_attributes ds)
pairs_more ds i d before after inside is pushed so =
    let next : suc i ≡ i + 1 = omega arith in
    let split : drop i ds ≡ d ∷ drop (i + 1) ds = drop-cons ds i d inside ∙ ap (λ x. x ∷ drop (suc i) ds) (sym is) ∙ ap (λ n. d ∷ drop n ds) next in
    ap (λ l. l ++ id_pairs_of (i + 1) (described_attributes (drop (i + 1) ds))) pushed
    ∙ append_assoc before (map (λ id. (id, i)) (ids_in d)) (id_pairs_of (i + 1) (described_attributes (drop (i + 1) ds)))
    ∙ ap (λ l. before ++ id_pairs_of i (described_attributes l)) (sym split) ∙ so

-- a table of the last pairs maps an identifier to the last attribute that lists it
pub table_resolves : (attrs : List Attribute) (pairs ordered last : Pairs) → pairs ≡ id_pairs_of 0 attrs → IsPermutation pairs ordered → AreAscending last → ((id : ℕ) → rank_of_id id last ≡ rank_of_id id ordered)
    → (id : ℕ) → index_of_id id last ≡ last_index_of_id id 0 attrs
table_resolves attrs pairs ordered last are moved up same id =
    index_ranked id last up ∙ ap index_by (same id ∙ rank_permuted id pairs ordered moved ∙ ap (rank_of_id id) are) ∙ index_listed id 0 attrs

-- the id pairs of one more identifier, and of all
abbrev pair_with : ℕ → ℕ → ℕ × ℕ
pair_with index id = (id, index)

pub appended_more : (before pairs after : List (ℕ × ℕ)) (ids : List ℕ) (i index : ℕ) → i < length ids → after ≡ pairs ++ (get_or ids i 0, index) ∷ [] → pairs ≡ before ++ map (pair_with index) (take i ids) → after ≡ before ++ map (pair_with index) (take (i + 1) ids)
appended_more before pairs after ids i index inside pushed known =
    let last = (get_or ids i 0, index) ∷ [] in
    pushed ∙ ap (λ l. l ++ last) known ∙ append_assoc before (map (pair_with index) (take i ids)) last ∙ ap (λ l. before ++ l) (sym (map_more (pair_with index) ids i 0 inside))

pub appended_all : (before pairs : List (ℕ × ℕ)) (ids : List ℕ) (i index : ℕ) → length ids ≤ i → pairs ≡ before ++ map (pair_with index) (take i ids) → pairs ≡ before ++ map (pair_with index) ids
appended_all before pairs ids i index done known = known ∙ ap (λ l. before ++ map (pair_with index) l) (take_all i ids done)
