-- The budget of the records of a source in order of time.
use Rattle.std.proofs.Common.{◌≡◌, ℕ, ◌+◌, ◌^◌, ◌<◌, ◌≤◌, List, [], ◌∷◌, ◌++◌, length, min, refl, sym, ap, ◌∙◌, subst, inl, inr, arith, zero-add}
use Rattle.std.specs.Prelude.{◌⊎◌}
use Rattle.std.specs.List.{sum_by}
use Rattle.std.specs.List.Sorted.{IsPermutation}
use Rattle.std.proofs.lemmas.List.Sums.{sum_by-cons, sum_by_push}
use Rattle.std.proofs.lemmas.List.Sorted.{length_permutation, sum_by-IsPermutation}
use Rattle.perfdata_sources.specs.Source.{State}
use Rattle.linux_perf_data.specs.declared.perf_file.PerfFile.{PerfFile}
use Rattle.perfdata_order.specs.declared.held_record.HeldRecord.{HeldRecord}
use Rattle.perfdata_order.specs.declared.streaming.OrderedRecords.{OrderedRecords}
use Rattle.perfdata_order.specs.HeldRecord.{held_view, held_size}
use Rattle.perfdata_order.specs.Sorter.{held_of}
use Rattle.perfdata_order.specs.SorterLaws.{releases_in}
use Rattle.perfdata_order.specs.SorterLaws.Call.{inserts, ends_round, ends_all, releases, returns, keeps}
use Rattle.perfdata_order.specs.StreamingOrder.{unplaced_of, budget_of, held_bytes_of, early_of, FitsBudget, InsertsPending, ReturnsSorted, Step, TakesSteps}
use Rattle.perfdata_order.specs.StreamingOrder.Step.{reads, reads_round_end, passes, reads_end, reads_error, sorts, reports}
use Rattle.perfdata_order.specs.StreamingLaws.{calls_in, CountsEarly, NoneEarlyWithoutBudget, StaysWithinBudget}
use Rattle.perfdata_order.proofs.SorterCalls.{held_after_insert, held_before_return}
use Rattle.perfdata_order.proofs.StreamingSteps.{half_released}

-- ---- counts

none_more : (n : ℕ) → n ≤ 18446744073709551615 → n ≡ min (n + 0) 18446744073709551615
none_more n fits = omega (arith, fits)

one_more : (old new last more : ℕ) → new ≡ min (old + 1) 18446744073709551615 → last ≡ min (new + more) 18446744073709551615 → last ≡ min (old + (1 + more)) 18446744073709551615
one_more old new last more one rest = omega (arith, one, rest)

count_fits : (old new : ℕ) → new ≡ min (old + 1) 18446744073709551615 → new ≤ 18446744073709551615
count_fits old new one = omega (arith, one)

module _ {R : Type 0} (state : R → State) where
  -- How often records are returned early, from this state on.
  abbrev Counted : List Step → OrderedRecords R → OrderedRecords R → Type 0
  Counted steps first last = early_of first ≤ 18446744073709551615 → early_of last ≡ min (early_of first + releases_in (calls_in steps)) 18446744073709551615

  same_count : (steps : List Step) (first next last : OrderedRecords R) → early_of next ≡ early_of first → Counted steps next last → Counted steps first last
  same_count steps first next last same rest fits =
      subst (λ n. early_of last ≡ min (n + releases_in (calls_in steps)) 18446744073709551615) same (rest (subst (λ n. n ≤ 18446744073709551615) (sym same) fits))

  counted : (steps : List Step) (first last : OrderedRecords R) (file file' : PerfFile) → TakesSteps state steps first file last file' → Counted steps first last
  counted [] first last file file' (same, same_file) = λ fits. ap (λ s. early_of s) same ∙ none_more (early_of first) fits
  counted (reads key h ∷ steps) first last file file' (next, (next_file, step, rest)) = same_count steps first next last step.same_order.same_budget.early (counted steps next last next_file file' rest)
  counted (reads_round_end ended ∷ steps) first last file file' (next, (next_file, step, rest)) = same_count steps first next last step.same_order.same_budget.early (counted steps next last next_file file' rest)
  counted (passes h ∷ steps) first last file file' (next, (next_file, step, rest)) = same_count steps first next last step.0.same_order.same_budget.early (counted steps next last next_file file' rest)
  counted (reads_end ∷ steps) first last file file' (next, (next_file, step, rest)) = same_count steps first next last step.same_order.same_budget.early (counted steps next last next_file file' rest)
  counted (reads_error e ∷ steps) first last file file' (next, (next_file, step, rest)) = same_count steps first next last step.same_order.same_budget.early (counted steps next last next_file file' rest)
  counted (sorts (inserts key held) ∷ steps) first last file file' (next, (next_file, step, rest)) = same_count steps first next last step.0.early (counted steps next last next_file file' rest)
  counted (sorts ends_round ∷ steps) first last file file' (next, (next_file, step, rest)) = same_count steps first next last step.0.same_budget.early (counted steps next last next_file file' rest)
  counted (sorts ends_all ∷ steps) first last file file' (next, (next_file, step, rest)) = same_count steps first next last step.0.same_budget.early (counted steps next last next_file file' rest)
  counted (sorts releases ∷ steps) first last file file' (next, (next_file, step, rest)) = λ fits.
      let early = (half_released (unplaced_of first) first next step.0).1 in
      one_more (early_of first) (early_of next) (early_of last) (releases_in (calls_in steps)) early.counted
      (counted steps next last next_file file' rest (count_fits (early_of first) (early_of next) early.counted))
  counted (sorts (returns key held) ∷ steps) first last file file' (next, (next_file, step, rest)) = same_count steps first next last step.0.early (counted steps next last next_file file' rest)
  counted (sorts keeps ∷ steps) first last file file' (next, (next_file, step, rest)) = same_count steps first next last step.0.same_budget.early (counted steps next last next_file file' rest)
  counted (reports e ∷ steps) first last file file' (next, (next_file, step, rest)) = same_count steps first next last step.0.same_order.same_budget.early (counted steps next last next_file file' rest)

  pub counts_early : CountsEarly state
  counts_early records budget first last file file' steps new taken =
      subst (λ n. early_of last ≡ min (n + releases_in (calls_in steps)) 18446744073709551615) new.none_early
      (counted steps first last file file' taken (subst (λ n. n ≤ 18446744073709551615) (sym new.none_early) (omega arith)))
      ∙ ap (λ n. min n 18446744073709551615) (zero-add (releases_in (calls_in steps)))

  -- ---- without a budget

  none_released : (steps : List Step) (first last : OrderedRecords R) (file file' : PerfFile) → budget_of first ≡ 0 → TakesSteps state steps first file last file' → releases_in (calls_in steps) ≡ 0
  none_released [] first last file file' none taken = refl
  none_released (reads key h ∷ steps) first last file file' none (next, (next_file, step, rest)) = none_released steps next last next_file file' (step.same_order.same_budget.budget ∙ none) rest
  none_released (reads_round_end ended ∷ steps) first last file file' none (next, (next_file, step, rest)) = none_released steps next last next_file file' (step.same_order.same_budget.budget ∙ none) rest
  none_released (passes h ∷ steps) first last file file' none (next, (next_file, step, rest)) = none_released steps next last next_file file' (step.0.same_order.same_budget.budget ∙ none) rest
  none_released (reads_end ∷ steps) first last file file' none (next, (next_file, step, rest)) = none_released steps next last next_file file' (step.same_order.same_budget.budget ∙ none) rest
  none_released (reads_error e ∷ steps) first last file file' none (next, (next_file, step, rest)) = none_released steps next last next_file file' (step.same_order.same_budget.budget ∙ none) rest
  none_released (sorts (inserts key held) ∷ steps) first last file file' none (next, (next_file, step, rest)) = none_released steps next last next_file file' (step.0.budget ∙ none) rest
  none_released (sorts ends_round ∷ steps) first last file file' none (next, (next_file, step, rest)) = none_released steps next last next_file file' (step.0.same_budget.budget ∙ none) rest
  none_released (sorts ends_all ∷ steps) first last file file' none (next, (next_file, step, rest)) = none_released steps next last next_file file' (step.0.same_budget.budget ∙ none) rest
  none_released (sorts releases ∷ steps) first last file file' none (next, (next_file, step, rest)) =
      let some = (half_released (unplaced_of first) first next step.0).1.has_budget in absurd (omega (arith, some, none))
  none_released (sorts (returns key held) ∷ steps) first last file file' none (next, (next_file, step, rest)) = none_released steps next last next_file file' (step.0.budget ∙ none) rest
  none_released (sorts keeps ∷ steps) first last file file' none (next, (next_file, step, rest)) = none_released steps next last next_file file' (step.0.same_budget.budget ∙ none) rest
  none_released (reports e ∷ steps) first last file file' none (next, (next_file, step, rest)) = none_released steps next last next_file file' (step.0.same_order.same_budget.budget ∙ none) rest

  pub none_early_without_budget : NoneEarlyWithoutBudget state
  none_early_without_budget records first last file file' steps new taken =
      counts_early records 0 first last file file' steps new taken ∙ ap (λ n. min n 18446744073709551615) (none_released steps first last file file' new.budget taken)

  -- ---- what is held

  abbrev size_of : ℕ × HeldRecord → ℕ
  size_of e = held_size (held_view e.1)

  abbrev total_of : List (ℕ × HeldRecord) → ℕ
  total_of es = sum_by (λ e. size_of e) es

  abbrev IsWithin : ℕ → List (ℕ × HeldRecord) → Type 0
  IsWithin budget es = (total_of es ≤ budget) ⊎ (length es ≤ 1)

  record Within (budget : ℕ) (s : OrderedRecords R) : Type 0 where
    same_budget : budget_of s ≡ budget
    counts_all : held_bytes_of s ≡ total_of (held_of s.held.sorter)
    within : IsWithin budget (held_of s.held.sorter)

  same_within : (budget : ℕ) (old new : List (ℕ × HeldRecord)) → total_of new ≡ total_of old → length new ≡ length old → IsWithin budget old → IsWithin budget new
  same_within budget old new same same_length (inl le) = inl (subst (λ n. n ≤ budget) (sym same) le)
  same_within budget old new same same_length (inr le) = inr (subst (λ n. n ≤ 1) (sym same_length) le)

  kept_within : (budget : ℕ) (s t : OrderedRecords R) → budget_of t ≡ budget_of s → held_bytes_of t ≡ held_bytes_of s → total_of (held_of t.held.sorter) ≡ total_of (held_of s.held.sorter)
      → length (held_of t.held.sorter) ≡ length (held_of s.held.sorter) → Within budget s → Within budget t
  kept_within budget s t same bytes total same_length w = record {
    same_budget = same ∙ w.same_budget;
    counts_all = bytes ∙ w.counts_all ∙ sym total;
    within = same_within budget (held_of s.held.sorter) (held_of t.held.sorter) total same_length w.within;
  }

  held_within : (budget : ℕ) (s t : OrderedRecords R) → budget_of t ≡ budget_of s → held_bytes_of t ≡ held_bytes_of s → held_of t.held.sorter ≡ held_of s.held.sorter → Within budget s → Within budget t
  held_within budget s t same bytes held w = kept_within budget s t same bytes (ap (λ es. total_of es) held) (ap length held) w

  sorted_within : (budget : ℕ) (s t : OrderedRecords R) → budget_of t ≡ budget_of s → held_bytes_of t ≡ held_bytes_of s → IsPermutation (held_of s.held.sorter) (held_of t.held.sorter) → Within budget s → Within budget t
  sorted_within budget s t same bytes permuted w =
      kept_within budget s t same bytes (sum_by-IsPermutation (λ e. size_of e) (held_of s.held.sorter) (held_of t.held.sorter) permuted) (length_permutation (held_of s.held.sorter) (held_of t.held.sorter) permuted) w

  -- ---- an insertion

  counted_within : (budget : ℕ) (s t : OrderedRecords R) (key : ℕ) (held : HeldRecord) → InsertsPending s key held t → held_of t.held.sorter ≡ held_of s.held.sorter ++ (key, held) ∷ [] → held_bytes_of s + size_of (key, held) < 2 ^ 64
      → IsWithin budget (held_of t.held.sorter) → Within budget s → Within budget t
  counted_within budget s t key held step more fits within w = record {
    same_budget = step.budget ∙ w.same_budget;
    counts_all = step.held_bytes fits ∙ ap (λ n. n + size_of (key, held)) w.counts_all ∙ sym (ap (λ es. total_of es) more ∙ sum_by_push (λ e. size_of e) (held_of s.held.sorter) (key, held));
    within = within;
  }

  inserted_within : (budget : ℕ) (s t : OrderedRecords R) (key : ℕ) (held : HeldRecord) → 0 < budget → budget < 2 ^ 64 → InsertsPending s key held t → held_of t.held.sorter ≡ held_of s.held.sorter ++ (key, held) ∷ []
      → FitsBudget s (size_of (key, held)) → Within budget s → Within budget t
  inserted_within budget s t key held some fits step more (inl none) w = let same = w.same_budget in absurd (omega (arith, some, none, same))
  inserted_within budget s t key held some fits step more (inr (inl admission)) w =
      let same = w.same_budget in
      let all = w.counts_all in
      let total = ap (λ es. total_of es) more ∙ sum_by_push (λ e. size_of e) (held_of s.held.sorter) (key, held) in
      counted_within budget s t key held step more (omega (arith, admission, same, fits)) (inl (omega (arith, admission, same, all, total))) w
  inserted_within budget s t key held some fits step more (inr (inr empty)) w =
      let none : held_bytes_of s ≡ 0 = w.counts_all ∙ ap (λ es. total_of es) empty in
      let size = step.size_fits in
      let one = ap length (more ∙ ap (λ es. es ++ (key, held) ∷ []) empty) in
      counted_within budget s t key held step more (omega (arith, none, size)) (inr (omega (arith, one))) w

  -- ---- a return

  fewer_within : (budget : ℕ) (old new : List (ℕ × HeldRecord)) → total_of new ≤ total_of old → length new ≤ length old → IsWithin budget old → IsWithin budget new
  fewer_within budget old new less fewer (inl le) = inl (omega (arith, less, le))
  fewer_within budget old new less fewer (inr le) = inr (omega (arith, fewer, le))

  returned_within : (budget : ℕ) (s t : OrderedRecords R) (key : ℕ) (held : HeldRecord) → ReturnsSorted s key held t → held_of s.held.sorter ≡ (key, held) ∷ held_of t.held.sorter → Within budget s → Within budget t
  returned_within budget s t key held step less w =
      let total = ap (λ es. total_of es) less ∙ sum_by-cons (λ e. size_of e) (key, held) (held_of t.held.sorter) in
      let count = ap length less in
      let all = w.counts_all in
      let bytes = step.held_bytes in
      record {
        same_budget = step.budget ∙ w.same_budget;
        counts_all = omega (arith, bytes, all, total);
        within = fewer_within budget (held_of s.held.sorter) (held_of t.held.sorter) (omega (arith, total)) (omega (arith, count)) w.within;
      }

  within_after : (budget : ℕ) (steps : List Step) (first last : OrderedRecords R) (file file' : PerfFile) → 0 < budget → budget < 2 ^ 64 → TakesSteps state steps first file last file' → Within budget first → Within budget last
  within_after budget [] first last file file' some fits (same, same_file) w = subst (λ s. Within budget s) (sym same) w
  within_after budget (reads key h ∷ steps) first last file file' some fits (next, (next_file, step, rest)) w =
      within_after budget steps next last next_file file' some fits rest (held_within budget first next step.same_order.same_budget.budget step.same_order.same_budget.held_bytes (ap (λ x. held_of x) step.same_order.sorter) w)
  within_after budget (reads_round_end ended ∷ steps) first last file file' some fits (next, (next_file, step, rest)) w =
      within_after budget steps next last next_file file' some fits rest (held_within budget first next step.same_order.same_budget.budget step.same_order.same_budget.held_bytes (ap (λ x. held_of x) step.same_order.sorter) w)
  within_after budget (passes h ∷ steps) first last file file' some fits (next, (next_file, step, rest)) w =
      within_after budget steps next last next_file file' some fits rest (held_within budget first next step.0.same_order.same_budget.budget step.0.same_order.same_budget.held_bytes (ap (λ x. held_of x) step.0.same_order.sorter) w)
  within_after budget (reads_end ∷ steps) first last file file' some fits (next, (next_file, step, rest)) w =
      within_after budget steps next last next_file file' some fits rest (held_within budget first next step.same_order.same_budget.budget step.same_order.same_budget.held_bytes (ap (λ x. held_of x) step.same_order.sorter) w)
  within_after budget (reads_error e ∷ steps) first last file file' some fits (next, (next_file, step, rest)) w =
      within_after budget steps next last next_file file' some fits rest (held_within budget first next step.same_order.same_budget.budget step.same_order.same_budget.held_bytes (ap (λ x. held_of x) step.same_order.sorter) w)
  within_after budget (sorts (inserts key held) ∷ steps) first last file file' some fits (next, (next_file, step, rest)) w =
      within_after budget steps next last next_file file' some fits rest
      (inserted_within budget first next key held some fits step.0 (held_after_insert first.held.sorter next.held.sorter key held step.0.inserted) step.0.fits_budget w)
  within_after budget (sorts ends_round ∷ steps) first last file file' some fits (next, (next_file, step, rest)) w =
      within_after budget steps next last next_file file' some fits rest (sorted_within budget first next step.0.same_budget.budget step.0.same_budget.held_bytes step.0.ended.sorts.each_once w)
  within_after budget (sorts ends_all ∷ steps) first last file file' some fits (next, (next_file, step, rest)) w =
      within_after budget steps next last next_file file' some fits rest (sorted_within budget first next step.0.same_budget.budget step.0.same_budget.held_bytes step.0.ended.sorts.each_once w)
  within_after budget (sorts releases ∷ steps) first last file file' some fits (next, (next_file, step, rest)) w =
      let early = (half_released (unplaced_of first) first next step.0).1 in
      within_after budget steps next last next_file file' some fits rest (sorted_within budget first next early.budget early.held_bytes early.released.sorts.each_once w)
  within_after budget (sorts (returns key held) ∷ steps) first last file file' some fits (next, (next_file, step, rest)) w =
      within_after budget steps next last next_file file' some fits rest (returned_within budget first next key held step.0 (held_before_return first.held.sorter next.held.sorter key held step.0.returned) w)
  within_after budget (sorts keeps ∷ steps) first last file file' some fits (next, (next_file, step, rest)) w =
      within_after budget steps next last next_file file' some fits rest (held_within budget first next step.0.same_budget.budget step.0.same_budget.held_bytes step.0.unchanged.held w)
  within_after budget (reports e ∷ steps) first last file file' some fits (next, (next_file, step, rest)) w =
      within_after budget steps next last next_file file' some fits rest (held_within budget first next step.0.same_order.same_budget.budget step.0.same_order.same_budget.held_bytes (ap (λ x. held_of x) step.0.same_order.sorter) w)

  pub remains_within_budget : StaysWithinBudget state
  remains_within_budget records budget first last file file' steps new taken some fits =
      let empty = new.empty.empty in
      (within_after budget steps first last file file' some fits taken (record {
        same_budget = new.budget;
        counts_all = new.none_held ∙ sym (ap (λ es. total_of es) empty);
        within = inl (subst (λ n. n ≤ budget) (sym (ap (λ es. total_of es) empty)) (omega arith));
      })).within
