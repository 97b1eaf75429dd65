-- The rows of a table.
use Rattle.std.proofs.Common.{◌≡◌, ◌∙◌, ◌+◌, ◌<◌, ◌||◌, ◌==◌, inl, inr, ap, refl, sym, subst, arith, ℕ, zero, suc, Bool, true, false, cond, not, true≢false, List, [], ◌∷◌, ◌++◌, ◌⊎◌, All, count_by, drop, get_or, length, map, Some, slice_get, Result, Ok, Err, IfOk}
use Rattle.std.proofs.lemmas.Bool.{cases_lt, eq-eqb, eqb-true}
use Rattle.std.proofs.lemmas.List.{drop_more, get_or_past, length-map}
use Rattle.std.proofs.lemmas.List.Elements.{All-cons, All-nil}
use Rattle.std.proofs.lemmas.List.Sums.{sum_by-cons}
use Rattle.std.specs.List.{list_any}
use Rattle.perfdata_profile.proofs.Valuing.{entry_at, value_is}
use Rattle.perfdata_profile.specs.Interning.{IsOnce}
use Rattle.perfdata_profile.specs.Profiles.{valued_entry}
use Rattle.perfdata_profile.specs.Interned.{stack_number}
use Rattle.perfdata_profile.specs.Values.{AreWithin, Lists, location_at, name_at, stack_at}
use Rattle.perfdata_profile.specs.Names.{number_of}
use Rattle.perfdata_profile.specs.declared.names.NameId.{NameId}
use Rattle.perfdata_profile.specs.declared.stacks.StackId.{StackId}
use Rattle.perfdata_profile.specs.declared.sums.SampleKey.{SampleKey}
use Rattle.perfdata_profile.specs.declared.sums.Sums.{Sums}
use Rattle.perfdata_views.specs.Counts.{is_line}
use Rattle.perfdata_views.specs.Entries.{Entry, stack_names}
use Rattle.perfdata_views.specs.FunctionTables.{IsRowOf, IsTableOf, occurs}
use Rattle.perfdata_views.specs.steps.Entries.{AreNames, stack_functions}
use Rattle.perfdata_views.specs.steps.FunctionTables.{AreTallies, no_tally, row_of, rows_of, used_row}
use Rattle.perfdata_views.specs.declared.table.FunctionRow.{FunctionRow}
use Rattle.perfdata_views.specs.declared.table.Tally.{Tally}
use Rattle.perfdata_views.proofs.LineSums.{same_line}
use Rattle.perfdata_views.proofs.Naming.{stack_named, stack_same}
use Rattle.perfdata_views.proofs.Tallying.{not_equal, number_test, same_tests}

abbrev tally_at : List Tally → ℕ → Tally
tally_at tallies j = get_or tallies j no_tally

rows_each : (P : FunctionRow → Type 0) (number : ℕ) (tallies : List Tally) → ((j : ℕ) → j < length tallies → ((tally_at tallies j).last == 0) ≡ false → P (row_of (number + j) (tally_at tallies j))) → All P (rows_of number tallies)
rows_each P number [] each = All-nil P
rows_each P number (t ∷ ts) each = by (t.last == 0) refl (rows_each P (number + 1) ts (λ j inside used.
    let moved : number + suc j ≡ (number + 1) + j = omega arith in
    subst (λ (n : ℕ). P (row_of n (tally_at ts j))) moved (each (suc j) (omega (arith, inside)) used)))
  where
    by : (b : Bool) → (t.last == 0) ≡ b → All P (rows_of (number + 1) ts) → All P (cond b [] (row_of number t ∷ []) ++ rows_of (number + 1) ts)
    by true is rest = rest
    by false is rest =
        let here : number + 0 ≡ number = omega arith in
        All-cons P (row_of number t) (rows_of (number + 1) ts) (subst (λ (n : ℕ). P (row_of n t)) here (each 0 (omega arith) is)) rest

module _ (test : FunctionRow → Bool) where
  rows_none : (number : ℕ) (tallies : List Tally) → ((j : ℕ) → j < length tallies → test (row_of (number + j) (tally_at tallies j)) ≡ false) → count_by test (rows_of number tallies) ≡ 0
  rows_none number [] none = refl
  rows_none number (t ∷ ts) none = by (t.last == 0) (rows_none (number + 1) ts (λ j inside.
      let moved : number + suc j ≡ (number + 1) + j = omega arith in
      ap (λ (n : ℕ). test (row_of n (tally_at ts j))) (sym moved) ∙ none (suc j) (omega (arith, inside))))
    where
      by : (b : Bool) → count_by test (rows_of (number + 1) ts) ≡ 0 → count_by test (cond b [] (row_of number t ∷ []) ++ rows_of (number + 1) ts) ≡ 0
      by true rest = rest
      by false rest =
          let here : number + 0 ≡ number = omega arith in
          let apart : test (row_of number t) ≡ false = ap (λ (n : ℕ). test (row_of n t)) (sym here) ∙ none 0 (omega arith) in
          sum_by-cons (λ (row : FunctionRow). cond (test row) 1 0) (row_of number t) (rows_of (number + 1) ts) ∙ ap (λ (b : Bool). cond b 1 0 + count_by test (rows_of (number + 1) ts)) apart ∙ omega (arith, rest)

  rows_one : (number : ℕ) (tallies : List Tally) (m : ℕ) → m < length tallies → ((j : ℕ) → j < length tallies → test (row_of (number + j) (tally_at tallies j)) ≡ (j == m)) → ((tally_at tallies m).last == 0) ≡ false → count_by test (rows_of number tallies) ≡ 1
  rows_one number [] m inside is used = absurd (omega (arith, inside))
  rows_one number (t ∷ ts) zero inside is used =
      let here : number + 0 ≡ number = omega arith in
      let own : test (row_of number t) ≡ true = ap (λ (n : ℕ). test (row_of n t)) (sym here) ∙ is 0 (omega arith) ∙ eq-eqb 0 0 refl in
      let rest = rows_none (number + 1) ts (λ j below.
      let moved : number + suc j ≡ (number + 1) + j = omega arith in
      ap (λ (n : ℕ). test (row_of n (tally_at ts j))) (sym moved) ∙ is (suc j) (omega arith) ∙ not_equal (suc j) 0 (λ same. omega (arith, same))) in
      ap (λ (b : Bool). count_by test (cond b [] (row_of number t ∷ []) ++ rows_of (number + 1) ts)) used
      ∙ sum_by-cons (λ (row : FunctionRow). cond (test row) 1 0) (row_of number t) (rows_of (number + 1) ts) ∙ ap (λ (b : Bool). cond b 1 0 + count_by test (rows_of (number + 1) ts)) own ∙ omega (arith, rest)
  rows_one number (t ∷ ts) (suc m) inside is used = by (t.last == 0) (rows_one (number + 1) ts m (omega (arith, inside)) (λ j below.
      let moved : number + suc j ≡ (number + 1) + j = omega arith in
      let less : (suc j == suc m) ≡ (j == m) = same_tests (suc j == suc m) (j == m) (λ same. let both = eqb-true (suc j) (suc m) same in eq-eqb j m (omega (arith, both))) (λ same. eq-eqb (suc j) (suc m) (ap suc (eqb-true j m same))) in
      ap (λ (n : ℕ). test (row_of n (tally_at ts j))) (sym moved) ∙ is (suc j) (omega (arith, below)) ∙ less) used)
    where
      by : (b : Bool) → count_by test (rows_of (number + 1) ts) ≡ 1 → count_by test (cond b [] (row_of number t ∷ []) ++ rows_of (number + 1) ts) ≡ 1
      by true rest = rest
      by false rest =
          let here : number + 0 ≡ number = omega arith in
          let apart : test (row_of number t) ≡ false = ap (λ (n : ℕ). test (row_of n t)) (sym here) ∙ is 0 (omega arith) ∙ not_equal 0 (suc m) (λ same. omega (arith, same)) in
          sum_by-cons (λ (row : FunctionRow). cond (test row) 1 0) (row_of number t) (rows_of (number + 1) ts) ∙ ap (λ (b : Bool). cond b 1 0 + count_by test (rows_of (number + 1) ts)) apart ∙ omega (arith, rest)

or_cases : (a b : Bool) → (a || b) ≡ true → (a ≡ true) ⊎ (b ≡ true)
or_cases true b is = inl refl
or_cases false b is = inr is

module _ (lists : Lists) (once : IsOnce lists.names) (within : AreWithin lists) where
  -- The functions of a stack.
  pub stack_ids : (id : StackId) → ((ids : List NameId) × AreNames lists ids × (map (name_at lists) ids ≡ stack_names (stack_at lists id)))
  stack_ids id = elim (cases_lt (stack_number id) (length lists.stacks)) [
    | inl inside ↦
        let there = entry_at lists.stacks (stack_number id) inside in
        (stack_functions lists there.0, stack_named lists within there.0, stack_same lists there.0 ∙ ap stack_names (sym (value_is (map (location_at lists)) lists.stacks [] (stack_number id) there.0 there.1)))
    | inr past ↦
        let count = length-map lists.stacks (map (location_at lists)) in
        ([], (λ index other at. absurd (no_element index other at)), sym (ap stack_names (get_or_past (map (map (location_at lists)) lists.stacks) (stack_number id) [] (omega (arith, count)))))
  ]
    where
      no_element : (index : ℕ) (other : NameId) → slice_get [] index ≡ Some other → ⊥
      no_element index other at = cc

  IsNamed : List ℕ → Type 0
  IsNamed name = ((number : ℕ) × (number < length lists.names) × (get_or lists.names number [] ≡ name))

  name_in : (name : List ℕ) (ids : List NameId) → AreNames lists ids → list_any (is_line name) (map (name_at lists) ids) ≡ true → IsNamed name
  unfolding IsNamed
  name_in name [] are is = absurd (true≢false (sym is))
  name_in name (id ∷ ids) are is = elim (or_cases (is_line name (name_at lists id)) (list_any (is_line name) (map (name_at lists) ids)) is) [
    | inl here ↦ (number_of id, are 0 id refl, sym (same_line name (name_at lists id) here))
    | inr later ↦ name_in name ids (λ index other at. are (suc index) other at) later
  ]

  -- A function that occurs has a name of the table.
  named : (name : List ℕ) (keys : List (SampleKey × Sums)) → list_any (occurs name) (map (valued_entry lists) keys) ≡ true → IsNamed name
  named name [] is = absurd (true≢false (sym is))
  named name (k ∷ ks) is = elim (or_cases (occurs name (valued_entry lists k)) (list_any (occurs name) (map (valued_entry lists) ks)) is) [
    | inl here ↦
        let ids = stack_ids k.0.stack in
        name_in name ids.0 ids.1 (ap (list_any (is_line name)) ids.2 ∙ here)
    | inr later ↦ named name ks later
  ]

  -- The rows of the tallies of all names are those of the functions that occur.
  pub table_is : (keys : List (SampleKey × Sums)) (tallies : List Tally) → AreTallies lists.names (map (valued_entry lists) keys) tallies → IsTableOf lists (map (valued_entry lists) keys) (rows_of 0 tallies)
  unfolding IsNamed
  table_is keys tallies are =
      let entries : List Entry = map (valued_entry lists) keys in
      record {
        each = rows_each (IsRowOf lists entries) 0 tallies (λ j inside used.
            let tally = are.each j (omega (arith, are.count_is)) in
            let zero_more : 0 + j ≡ j = omega arith in
            let occurred : list_any (occurs (get_or lists.names j [])) entries ≡ true = not_not (list_any (occurs (get_or lists.names j [])) entries) (sym tally.is_used ∙ used) in
            let Row : ℕ → Type 0 = λ n. IsRowOf lists entries (row_of n (tally_at tallies j)) in
            let row : Row j = record { own = tally.own; total = tally.total; occurs_in = occurred } in
            subst Row (sym zero_more) row);
        once = λ name occurred.
            let there = named name keys occurred in
            let m = there.0 in
            let tally = are.each m there.1 in
            let occurs_m : list_any (occurs (get_or lists.names m [])) entries ≡ true = ap (λ (n : List ℕ). list_any (occurs n) entries) there.2 ∙ occurred in
            let used : ((tally_at tallies m).last == 0) ≡ false = tally.is_used ∙ ap not occurs_m in
            rows_one (λ (row : FunctionRow). is_line name (name_at lists row.name)) 0 tallies m (omega (arith, there.1, are.count_is)) (λ j inside.
            let zero_more : 0 + j ≡ j = omega arith in
            ap (λ (n : ℕ). is_line name (get_or lists.names n [])) zero_more ∙ ap (λ (n : List ℕ). is_line n (get_or lists.names j [])) (sym there.2) ∙ sym (number_test lists.names once m j there.1 (omega (arith, are.count_is)))) used;
      }
    where
      not_not : (b : Bool) → not b ≡ false → b ≡ true
      not_not true is = refl
      not_not false is = sym is

-- The rows of the tallies from a number on.
pub rows_next : (tallies : List Tally) (number : ℕ) (tally : Tally) → number < length tallies → tally ≡ get_or tallies number tally → rows_of number (drop number tallies) ≡ used_row number tally ++ rows_of (number + 1) (drop (number + 1) tallies)
rows_next tallies number tally inside is = ap (rows_of number) (drop_more tallies number tally inside) ∙ ap (λ (t : Tally). used_row number t ++ rows_of (number + 1) (drop (number + 1) tallies)) (sym is)

pub if_ok : {T E : Type 0} {P Q : T → Type 0} → (result : Result T E) → IfOk result P → ((value : T) → P value → Q value) → IfOk result Q
if_ok (Ok value) is then = then value is
if_ok (Err error) is then = tt
