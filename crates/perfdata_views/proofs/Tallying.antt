-- The weights of functions as entries are counted.
use Rattle.std.proofs.Common.{◌≡◌, ◌∙◌, ◌+◌, ◌-◌, ◌<◌, ◌≤◌, ◌^◌, ◌||◌, ◌==◌, inl, inr, ap, refl, sym, subst, arith, ℕ, suc, Bool, true, false, cond, not, List, [], ◌∷◌, ◌++◌, get_or, length, length-append, map, min, replicate, Some, set, slice_get, take}
use Rattle.std.proofs.lemmas.Bool.{cases_eq, cases_Bool, eq-eqb, eqb-true}
use Rattle.std.proofs.lemmas.List.{get_or-replicate, length-map, get_or-set_other, get_or-set_same, length-replicate, length-set, length-take-le, take_all, take_more}
use Rattle.std.proofs.lemmas.List.Folds.{list_any-append}
use Rattle.std.proofs.lemmas.List.Sums.{sum_by-le-sum_by, sum_by_more_le, sum_by_push}
use Rattle.std.proofs.lemmas.Option.{slice_get-get_or}
use Rattle.std.specs.List.{list_any, sum_by}
use Rattle.perfdata_profile.specs.Interning.{IsOnce}
use Rattle.perfdata_profile.specs.Names.{number_of}
use Rattle.perfdata_profile.specs.Values.{IsName, Lists, name_at, stack_at}
use Rattle.perfdata_profile.specs.declared.names.NameId.{NameId}
use Rattle.perfdata_profile.specs.Profiles.{valued_entry}
use Rattle.perfdata_profile.specs.Sums.{entry_weight}
use Rattle.perfdata_profile.specs.declared.sums.SampleKey.{SampleKey}
use Rattle.perfdata_profile.specs.declared.sums.Sums.{Sums}
use Rattle.perfdata_views.specs.Counts.{is_line}
use Rattle.perfdata_views.specs.Entries.{Entry, stack_names, weight_of, weight_where}
use Rattle.perfdata_views.specs.FunctionTables.{is_leaf, occurs}
use Rattle.perfdata_views.specs.steps.Entries.{AreNames}
use Rattle.perfdata_views.specs.steps.FunctionTables.{AreTallies, CountsEntry, IsTallyOf, Sees, no_tally, seen, tally_after, with_own}
use Rattle.perfdata_views.specs.declared.table.Tally.{Tally}
use Rattle.perfdata_views.proofs.LineSums.{inside, is_own_line, same_line, value_at, valued_weights}

pub same_tests : (a b : Bool) → (a ≡ true → b ≡ true) → (b ≡ true → a ≡ true) → a ≡ b
same_tests true b there back = sym (there refl)
same_tests false true there back = back refl
same_tests false false there back = refl

or_false : (b : Bool) → (b || false) ≡ b
or_false true = refl
or_false false = refl

pub any_push : {A : Type 0} → (test : A → Bool) (xs : List A) (x : A) → list_any test (xs ++ x ∷ []) ≡ (list_any test xs || test x)
any_push test xs x = list_any-append test xs (x ∷ []) ∙ ap (λ (b : Bool). list_any test xs || b) (or_false (test x))

pub not_equal : (a b : ℕ) → (a ≡ b → ⊥) → (a == b) ≡ false
not_equal a b apart = elim (cases_Bool (a == b)) [
  | inl is ↦ absurd (apart (eqb-true a b is))
  | inr is ↦ is
]

-- Numbers of names are the same if the names are.
pub number_test : (names : List (List ℕ)) → IsOnce names → (number other : ℕ) → number < length names → other < length names → (other == number) ≡ is_line (get_or names number []) (get_or names other [])
number_test names once number other within also = same_tests (other == number) (is_line (get_or names number []) (get_or names other []))
    (λ is. ap (λ (n : ℕ). is_line (get_or names number []) (get_or names n [])) (eqb-true other number is) ∙ is_own_line (get_or names number []))
    (λ is.
    let same = same_line (get_or names number []) (get_or names other []) is in
    eq-eqb other number (once other number (get_or names other []) (slice_get-get_or names other [] also) (slice_get-get_or names number [] within ∙ ap (λ (n : List ℕ). Some n) same)))

module _ (lists : Lists) (once : IsOnce lists.names) where
  one_same : (number : ℕ) → number < length lists.names → (id : NameId) → IsName lists id → (number_of id == number) ≡ is_line (get_or lists.names number []) (name_at lists id)
  one_same number inside id is = number_test lists.names once number (number_of id) inside is

  -- Functions by number and by name.
  pub any_same : (number : ℕ) → number < length lists.names → (ids : List NameId) → AreNames lists ids
      → list_any (λ (m : ℕ). m == number) (map number_of ids) ≡ list_any (is_line (get_or lists.names number [])) (map (name_at lists) ids)
  any_same number below [] are = refl
  any_same number below (id ∷ ids) are =
      ap (λ (b : Bool). b || list_any (λ (m : ℕ). m == number) (map number_of ids)) (one_same number below id (are 0 id refl))
      ∙ ap (λ (b : Bool). is_line (get_or lists.names number []) (name_at lists id) || b) (any_same number below ids (λ index other at. are (suc index) other at))

  pub first_same : (number : ℕ) → number < length lists.names → (ids : List NameId) → AreNames lists ids
      → list_any (λ (m : ℕ). m == number) (take 1 (map number_of ids)) ≡ list_any (is_line (get_or lists.names number [])) (take 1 (map (name_at lists) ids))
  first_same number below [] are = refl
  first_same number below (id ∷ ids) are = ap (λ (b : Bool). b || false) (one_same number below id (are 0 id refl))

-- A function that was seen is seen again.
module _ (count weight : ℕ) (tally : Tally) where
  abbrev raised : Tally
  raised = record { own = tally.own; total = min (tally.total + weight) (2 ^ 64 - 1); last = count }

  pub seen_at : (b : Bool) → (tally.last == count) ≡ b → seen count weight tally ≡ cond b tally raised
  seen_at b is = ap (λ (t : Bool). cond t tally raised) is

pub seen_again : (count weight : ℕ) (tally : Tally) → seen count weight (seen count weight tally) ≡ seen count weight tally
seen_again count weight tally = elim (cases_Bool (tally.last == count)) [
  | inl is ↦ ap (seen count weight) (seen_at count weight tally true is)
  | inr is ↦
      let once = seen_at count weight tally false is in
      ap (seen count weight) once ∙ seen_at count weight (raised count weight tally) true (eq-eqb count count refl) ∙ sym once
]

module _ (count weight : ℕ) (old new : List Tally) where
  -- One more function.
  pub sees_more : (numbers : List ℕ) (number : ℕ) → Sees old numbers count weight new → Sees old (numbers ++ number ∷ []) count weight (set new number (seen count weight (get_or new number no_tally)))
  sees_more numbers number is = record {
    count_is = length-set new number (seen count weight (get_or new number no_tally)) ∙ is.count_is;
    each = λ n inside.
        let pushed = any_push (λ (m : ℕ). m == n) numbers number in
        let tally = get_or old n no_tally in
        let now = is.each n inside in
        elim (cases_eq number n) [
          | inl here ↦
              let test : (list_any (λ (m : ℕ). m == n) numbers || (number == n)) ≡ true = by_or (list_any (λ (m : ℕ). m == n) numbers) (number == n) (eq-eqb number n here) in
              let place : number < length new = omega (arith, is.count_is) in
              let read = ap (λ (m : ℕ). get_or (set new number (seen count weight (get_or new number no_tally))) m no_tally) (sym here) ∙ get_or-set_same new number (seen count weight (get_or new number no_tally)) no_tally place in
              let value = ap (λ (m : ℕ). seen count weight (get_or new m no_tally)) here ∙ ap (seen count weight) now in
              let again : seen count weight (cond (list_any (λ (m : ℕ). m == n) numbers) (seen count weight tally) tally) ≡ seen count weight tally = by_seen (list_any (λ (m : ℕ). m == n) numbers) tally in
              read ∙ value ∙ again ∙ sym (ap (λ (b : Bool). cond b (seen count weight tally) tally) (pushed ∙ test))
          | inr apart ↦
              let test : (list_any (λ (m : ℕ). m == n) numbers || (number == n)) ≡ list_any (λ (m : ℕ). m == n) numbers = ap (λ (b : Bool). list_any (λ (m : ℕ). m == n) numbers || b) (not_equal number n apart) ∙ or_false (list_any (λ (m : ℕ). m == n) numbers) in
              get_or-set_other new number n (seen count weight (get_or new number no_tally)) no_tally (λ same. apart (sym same)) ∙ now ∙ sym (ap (λ (b : Bool). cond b (seen count weight tally) tally) (pushed ∙ test))
        ];
  }
    where
      by_or : (a b : Bool) → b ≡ true → (a || b) ≡ true
      by_or true b is = refl
      by_or false b is = is

      by_seen : (b : Bool) (tally : Tally) → seen count weight (cond b (seen count weight tally) tally) ≡ seen count weight tally
      by_seen true tally = seen_again count weight tally
      by_seen false tally = refl

cond_at_most : (b : Bool) (n : ℕ) → cond b n 0 ≤ n
cond_at_most true n = omega arith
cond_at_most false n = omega arith

pub where_at_most : (test : Entry → Bool) (entries : List Entry) → weight_where test entries ≤ sum_by weight_of entries
where_at_most test entries = sum_by-le-sum_by (λ (e : Entry). cond (test e) (weight_of e) 0) weight_of entries (λ e. cond_at_most (test e) (weight_of e))

-- The tally of a function after one more entry.
module _ (name : List ℕ) (entries : List Entry) (entry : Entry) (tally : Tally) (is : IsTallyOf name entries tally) (fits : sum_by weight_of entries + weight_of entry < 2 ^ 64) where
  abbrev count : ℕ
  count = length entries + 1

  abbrev weight : ℕ
  weight = weight_of entry

  not_yet : (tally.last == count) ≡ false
  not_yet = not_equal tally.last count (λ same. let most = is.last in omega arith)

  seen_is : seen count weight tally ≡ raised count weight tally
  seen_is = seen_at count weight tally false not_yet

  abbrev IsAfter : Bool → Bool → Tally → Type 0
  IsAfter leaf occurred after = ((after.own ≡ tally.own + cond leaf weight 0) × (after.total ≡ tally.total + cond occurred weight 0) × (after.last ≤ count) × ((after.last == 0) ≡ not (list_any (occurs name) entries || occurred)))

  or_zero : (a b : Bool) → b ≡ not a → b ≡ not (a || false)
  or_zero true b h = h
  or_zero false b h = h

  or_one : (a : Bool) → (count == 0) ≡ not (a || true)
  or_one true = not_equal count 0 (λ same. omega arith)
  or_one false = not_equal count 0 (λ same. omega arith)

  own_fits : min (tally.own + weight) (2 ^ 64 - 1) ≡ tally.own + weight
  own_fits = let most = where_at_most (is_leaf name) entries in let own = is.own in omega arith

  total_fits : min (tally.total + weight) (2 ^ 64 - 1) ≡ tally.total + weight
  total_fits = let most = where_at_most (occurs name) entries in let total = is.total in omega arith

  after_is : (leaf occurred : Bool) → IsAfter leaf occurred (tally_after count weight leaf occurred tally)
  after_is true true = subst (λ (t : Tally). IsAfter true true (with_own weight t)) (sym seen_is) (own_fits, total_fits, omega arith, or_one (list_any (occurs name) entries))
  after_is true false = (own_fits, omega arith, (let most = is.last in omega arith), or_zero (list_any (occurs name) entries) (tally.last == 0) is.is_used)
  after_is false true = subst (IsAfter false true) (sym seen_is) (omega arith, total_fits, omega arith, or_one (list_any (occurs name) entries))
  after_is false false = (omega arith, omega arith, (let most = is.last in omega arith), or_zero (list_any (occurs name) entries) (tally.last == 0) is.is_used)

  pub tally_more : (leaf occurred : Bool) → leaf ≡ is_leaf name entry → occurred ≡ occurs name entry → IsTallyOf name (entries ++ entry ∷ []) (tally_after count weight leaf occurred tally)
  tally_more leaf occurred leaf_is occurred_is =
      let after = after_is leaf occurred in
      let own = sum_by_push (λ (e : Entry). cond (is_leaf name e) (weight_of e) 0) entries entry in
      let total = sum_by_push (λ (e : Entry). cond (occurs name e) (weight_of e) 0) entries entry in
      record {
        own = after.0 ∙ ap (λ (n : ℕ). n + cond leaf weight 0) is.own ∙ ap (λ (b : Bool). weight_where (is_leaf name) entries + cond b weight 0) leaf_is ∙ sym own;
        total = after.1 ∙ ap (λ (n : ℕ). n + cond occurred weight 0) is.total ∙ ap (λ (b : Bool). weight_where (occurs name) entries + cond b weight 0) occurred_is ∙ sym total;
        last = let longer = length-append entries (entry ∷ []) in let most = after.2 in omega arith;
        is_used = after.3 ∙ ap (λ (b : Bool). not (list_any (occurs name) entries || b)) occurred_is ∙ ap not (sym (any_push (occurs name) entries entry));
      }

-- The tallies of all names after one more entry.
module _ (lists : Lists) (once : IsOnce lists.names) (entries : List Entry) (entry : Entry) (ids : List NameId) (are : AreNames lists ids) (names_are : map (name_at lists) ids ≡ stack_names entry.0.stack) (fits : sum_by weight_of entries + weight_of entry < 2 ^ 64) where
  pub tallies_more : (old new : List Tally) → AreTallies lists.names entries old → CountsEntry old (map number_of ids) (length entries + 1) (weight_of entry) new → AreTallies lists.names (entries ++ entry ∷ []) new
  tallies_more old new is counted = record {
    count_is = counted.count_is ∙ is.count_is;
    each = λ number inside.
        let name = get_or lists.names number [] in
        let leaf = list_any (λ (m : ℕ). m == number) (take 1 (map number_of ids)) in
        let occurred = list_any (λ (m : ℕ). m == number) (map number_of ids) in
        let leaf_is : leaf ≡ is_leaf name entry = first_same lists once number inside ids are ∙ ap (λ (names : List (List ℕ)). list_any (is_line name) (take 1 names)) names_are in
        let occurred_is : occurred ≡ occurs name entry = any_same lists once number inside ids are ∙ ap (list_any (is_line name)) names_are in
        let now = counted.each number (omega (arith, is.count_is)) in
        subst (IsTallyOf name (entries ++ entry ∷ [])) (sym now) (tally_more name entries entry (get_or old number no_tally) (is.each number inside) fits leaf occurred leaf_is occurred_is);
  }

pub tallies_none : (names : List (List ℕ)) (tallies : List Tally) → tallies ≡ replicate (length names) no_tally → AreTallies names [] tallies
tallies_none names tallies is = record {
  count_is = ap length is ∙ length-replicate (length names) no_tally;
  each = λ number inside.
      let none = ap (λ (ts : List Tally). get_or ts number no_tally) is ∙ get_or-replicate (length names) number no_tally no_tally inside in
      subst (IsTallyOf (get_or names number []) []) (sym none) (record { own = refl; total = refl; last = omega arith; is_used = eq-eqb 0 0 refl });
}

-- The tallies of the first entries, and of the next one.
module _ (lists : Lists) (once : IsOnce lists.names) (keys : List (SampleKey × Sums)) (index : ℕ) (key : SampleKey × Sums) (at : slice_get keys index ≡ Some key) (fits : sum_by entry_weight keys < 2 ^ 64) where
  abbrev all : List Entry
  all = map (valued_entry lists) keys

  pub tallies_next : (ids : List NameId) → AreNames lists ids → map (name_at lists) ids ≡ stack_names (stack_at lists key.0.stack) → (old new : List Tally) → AreTallies lists.names (take index all) old
      → CountsEntry old (map number_of ids) (index + 1) key.1.weight new → AreTallies lists.names (take (index + 1) all) new
  tallies_next ids are names_are old new is counted =
      let entry : Entry = valued_entry lists key in
      let read : get_or all index entry ≡ entry = value_at lists keys index key at in
      let below : index < length all = inside lists keys index key at in
      let next : take (index + 1) all ≡ take index all ++ entry ∷ [] = take_more all index entry below ∙ ap (λ (e : Entry). take index all ++ e ∷ []) read in
      let count : length (take index all) ≡ index = length-take-le index all (omega arith) in
      let whole = valued_weights lists keys in
      let part = sum_by_more_le weight_of all index entry below in
      let last : weight_of (get_or all index entry) ≡ weight_of entry = ap weight_of read in
      let counted_as : CountsEntry old (map number_of ids) (length (take index all) + 1) (weight_of entry) new = subst (λ (n : ℕ). CountsEntry old (map number_of ids) (n + 1) key.1.weight new) (sym count) counted in
      subst (λ (es : List Entry). AreTallies lists.names es new) (sym next) (tallies_more lists once (take index all) entry ids are names_are (omega (arith, part, last, whole)) old new is counted_as)

-- The functions that were seen up to an index.
pub sees_none : (n w : ℕ) (tallies : List Tally) → Sees tallies [] n w tallies
sees_none n w tallies = record { count_is = refl; each = λ n inside. refl }

pub sees_next : (count weight : ℕ) (old now new : List Tally) (numbers : List ℕ) (index number : ℕ) → index < length numbers → number ≡ get_or numbers index number → Sees old (take index numbers) count weight now → new ≡ set now number (seen count weight (get_or now number no_tally)) → Sees old (take (index + 1) numbers) count weight new
sees_next count weight old now new numbers index number inside is sees new_is =
    let longer : take (index + 1) numbers ≡ take index numbers ++ number ∷ [] = take_more numbers index number inside ∙ ap (λ (n : ℕ). take index numbers ++ n ∷ []) (sym is) in
    subst (λ (ns : List ℕ). Sees old ns count weight new) (sym longer) (subst (Sees old (take index numbers ++ number ∷ []) count weight) (sym new_is) (sees_more count weight old now (take index numbers) number sees))

pub sees_all : (count weight : ℕ) (old new : List Tally) (numbers : List ℕ) (index : ℕ) → length numbers ≤ index → Sees old (take index numbers) count weight new → Sees old numbers count weight new
sees_all count weight old new numbers index past sees = subst (λ (ns : List ℕ). Sees old ns count weight new) (take_all index numbers past) sees

pub all_tallies : (lists : Lists) (keys : List (SampleKey × Sums)) (index : ℕ) (tallies : List Tally) → length keys ≤ index → AreTallies lists.names (take index (map (valued_entry lists) keys)) tallies → AreTallies lists.names (map (valued_entry lists) keys) tallies
all_tallies lists keys index tallies past are =
    let size = length-map keys (valued_entry lists) in
    subst (λ (es : List Entry). AreTallies lists.names es tallies) (take_all index (map (valued_entry lists) keys) (omega (arith, size))) are
