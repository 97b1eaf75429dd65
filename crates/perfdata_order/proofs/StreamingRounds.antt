-- The rounds of the records that are held.
use Rattle.std.proofs.Common.{◌≡◌, ℕ, ◌+◌, ◌≤◌, List, [], ◌∷◌, ◌++◌, All, refl, sym, ap, ◌∙◌, subst, inl, inr, arith}
use Rattle.std.specs.Prelude.{◌⊎◌}
use Rattle.std.proofs.lemmas.List.Elements.{All-head, All-tail}
use Rattle.perfdata_sources.specs.Source.{State}
use Rattle.linux_perf_data.specs.declared.perf_file.PerfFile.{PerfFile}
use Rattle.linux_perf_data.specs.Laws.{OffsetsIncrease}
use Rattle.perfdata_order.specs.declared.held_record.HeldRecord.{HeldRecord}
use Rattle.perfdata_order.specs.declared.streaming.OrderedRecords.{OrderedRecords}
use Rattle.perfdata_order.specs.HeldRecord.{held_view}
use Rattle.perfdata_order.specs.SorterLaws.Call.{inserts, ends_round, ends_all, releases, returns, keeps}
use Rattle.perfdata_order.specs.Times.{key_of_time}
use Rattle.perfdata_order.specs.StreamingOrder.{unplaced_of, budget_of, Step, TakesSteps}
use Rattle.perfdata_order.specs.StreamingOrder.Step.{reads, reads_round_end, passes, reads_end, reads_error, sorts, reports}
use Rattle.perfdata_order.specs.StreamingLaws.{read_in, timed_by, timed_of, HoldsTwoRounds}
use Rattle.perfdata_order.proofs.HeldRounds.{TwoRounds, inserted_two, round_two, all_two, returned_two, kept_two, same_two, new_two}
use Rattle.perfdata_order.proofs.LayoutRounds.{rounds_follow}
use Rattle.perfdata_order.proofs.StreamingCalls.{IsLast}
use Rattle.perfdata_order.proofs.StreamingSteps.{half_released}
use Rattle.perfdata_order.proofs.StreamingRule.{Timed, RoundsFit, pending_timed, ahead, one_round, later_rounds, after_one_round, fit_after, read_later, new_fits}

abbrev round_by : HeldRecord → ℕ
round_by value = (held_view value).round

module _ {R : Type 0} (state : R → State) where
  record FromRound (s : OrderedRecords R) (times : List Timed) : Type 0 where
    from_round : All (λ y. s.round ≤ y.0) times

  same_from : (s t : OrderedRecords R) (before after : List Timed) → t.round ≡ s.round → before ≡ after → FromRound s before → FromRound t after
  same_from s t before after same_round same from = record {
    from_round = subst (λ k. All (λ y. k ≤ y.0) after) (sym same_round) (subst (λ es. All (λ y. s.round ≤ y.0) es) same from.from_round);
  }

  -- After the end of rounds before the pending record, or of all.
  later_from : (s next : OrderedRecords R) (times : List Timed) → ((s.round + 2 ≤ next.round) × All (λ y. next.round ≤ y.0) times) ⊎ ((next.round ≡ s.round) × IsLast (unplaced_of s)) → FromRound s times → FromRound next times
  later_from s next times (inl (later, all)) from = record { from_round = all }
  later_from s next times (inr (same_round, final)) from = same_from s next times times same_round refl from

  two_after : (steps : List Step) (s t : OrderedRecords R) (f g : PerfFile) → budget_of s ≡ 0 → RoundsFit state s (read_in steps) → FromRound s (ahead state s steps) → TakesSteps state steps s f t g → TwoRounds round_by s.round s.held.sorter → TwoRounds round_by t.round t.held.sorter
  two_after [] s t f g none fit from (same, same_file) two = same_two round_by s.round t.round s.held.sorter t.held.sorter (ap (λ x. x.round) same) (ap (λ x. x.held.sorter) same) two
  two_after (reads key h ∷ steps) s t f g none fit from (next, (next_file, step, rest)) two =
      let same : ahead state s (reads key h ∷ steps) ≡ ahead state next steps =
      ap (λ p. pending_timed p ++ (timed_by (key_of_time h.timestamp) h ++ timed_of (read_in steps))) step.nothing_pending ∙ ap (λ k. timed_by k h ++ timed_of (read_in steps)) step.has_time
      ∙ ap (λ p. pending_timed p ++ timed_of (read_in steps)) (sym step.pending) in
      two_after steps next t next_file g (step.same_order.same_budget.budget ∙ none) (fit_after state (reads key h) steps s next f next_file step fit) (same_from s next (ahead state s (reads key h ∷ steps)) (ahead state next steps) step.same_order.round same from) rest
      (same_two round_by s.round next.round s.held.sorter next.held.sorter step.same_order.round step.same_order.sorter two)
  two_after (reads_round_end ended ∷ steps) s t f g none fit from (next, (next_file, step, rest)) two =
      let same : ahead state s (reads_round_end ended ∷ steps) ≡ ahead state next steps =
      ap (λ p. pending_timed p ++ timed_of (read_in steps)) step.nothing_pending ∙ ap (λ p. pending_timed p ++ timed_of (read_in steps)) (sym step.pending) in
      two_after steps next t next_file g (step.same_order.same_budget.budget ∙ none) (fit_after state (reads_round_end ended) steps s next f next_file step fit) (same_from s next (ahead state s (reads_round_end ended ∷ steps)) (ahead state next steps) step.same_order.round same from) rest
      (same_two round_by s.round next.round s.held.sorter next.held.sorter step.same_order.round step.same_order.sorter two)
  two_after (passes h ∷ steps) s t f g none fit from (next, (next_file, step, rest)) two =
      let same : ahead state s (passes h ∷ steps) ≡ ahead state next steps =
      ap (λ p. pending_timed p ++ timed_of (read_in steps)) step.0.was_pending ∙ ap (λ p. pending_timed p ++ timed_of (read_in steps)) (sym step.0.pending) in
      two_after steps next t next_file g (step.0.same_order.same_budget.budget ∙ none) (fit_after state (passes h) steps s next f next_file step fit) (same_from s next (ahead state s (passes h ∷ steps)) (ahead state next steps) step.0.same_order.round same from) rest
      (same_two round_by s.round next.round s.held.sorter next.held.sorter step.0.same_order.round step.0.same_order.sorter two)
  two_after (reads_end ∷ steps) s t f g none fit from (next, (next_file, step, rest)) two =
      let same : ahead state s (reads_end ∷ steps) ≡ ahead state next steps =
      ap (λ p. pending_timed p ++ timed_of (read_in steps)) step.nothing_pending ∙ ap (λ p. pending_timed p ++ timed_of (read_in steps)) (sym step.pending) in
      two_after steps next t next_file g (step.same_order.same_budget.budget ∙ none) (fit_after state reads_end steps s next f next_file step fit) (same_from s next (ahead state s (reads_end ∷ steps)) (ahead state next steps) step.same_order.round same from) rest
      (same_two round_by s.round next.round s.held.sorter next.held.sorter step.same_order.round step.same_order.sorter two)
  two_after (reads_error e ∷ steps) s t f g none fit from (next, (next_file, step, rest)) two =
      let same : ahead state s (reads_error e ∷ steps) ≡ ahead state next steps =
      ap (λ p. pending_timed p ++ timed_of (read_in steps)) step.nothing_pending ∙ ap (λ p. pending_timed p ++ timed_of (read_in steps)) (sym step.pending) in
      two_after steps next t next_file g (step.same_order.same_budget.budget ∙ none) (fit_after state (reads_error e) steps s next f next_file step fit) (same_from s next (ahead state s (reads_error e ∷ steps)) (ahead state next steps) step.same_order.round same from) rest
      (same_two round_by s.round next.round s.held.sorter next.held.sorter step.same_order.round step.same_order.sorter two)
  two_after (sorts (inserts key held) ∷ steps) s t f g none fit from (next, (next_file, step, rest)) two =
      let times = timed_of (read_in steps) in
      let more : ahead state s (sorts (inserts key held) ∷ steps) ≡ ((held_view held).round, (key, held_view held)) ∷ times = ap (λ p. pending_timed p ++ times) step.0.was_pending in
      let left : ahead state next steps ≡ times = ap (λ p. pending_timed p ++ times) step.0.pending in
      let here = same_from s s (ahead state s (sorts (inserts key held) ∷ steps)) (((held_view held).round, (key, held_view held)) ∷ times) refl more from in
      let first = All-head (λ y. s.round ≤ y.0) ((held_view held).round, (key, held_view held)) times here.from_round in
      let last = step.0.in_round in
      let after : FromRound s times = record { from_round = All-tail (λ y. s.round ≤ y.0) ((held_view held).round, (key, held_view held)) times here.from_round } in
      two_after steps next t next_file g (step.0.budget ∙ none) (fit_after state (sorts (inserts key held)) steps s next f next_file step fit) (same_from s next times (ahead state next steps) step.0.round (sym left) after) rest
      (subst (λ n. TwoRounds round_by n next.held.sorter) (sym step.0.round) (inserted_two round_by s.round s.held.sorter next.held.sorter key held (omega (arith, first, last)) step.0.inserted two))
  two_after (sorts ends_round ∷ steps) s t f g none fit from (next, (next_file, step, rest)) two =
      let same : ahead state s (sorts ends_round ∷ steps) ≡ ahead state next steps = after_one_round state s next steps step.0.pending in
      let ended = one_round (unplaced_of s) (read_in steps) s.round next.round s.records.round step.0.round fit.0 fit.1 (read_later state (sorts ends_round ∷ steps) s t f g (next, (next_file, step, rest))) in
      let after : FromRound next (ahead state s steps) = record { from_round = ended.1 } in
      two_after steps next t next_file g (step.0.same_budget.budget ∙ none) (fit_after state (sorts ends_round) steps s next f next_file step fit) (same_from next next (ahead state s steps) (ahead state next steps) refl same after) rest
      (subst (λ n. TwoRounds round_by n next.held.sorter) (sym ended.0) (round_two round_by s.round s.held.sorter next.held.sorter step.0.ended two))
  two_after (sorts ends_all ∷ steps) s t f g none fit from (next, (next_file, step, rest)) two =
      let same : ahead state s (sorts ends_all ∷ steps) ≡ ahead state next steps = ap (λ p. pending_timed p ++ timed_of (read_in steps)) (sym step.0.pending) in
      let after = later_from s next (ahead state s steps) (later_rounds (unplaced_of s) (read_in steps) s.round next.round step.0.round fit.0) from in
      two_after steps next t next_file g (step.0.same_budget.budget ∙ none) (fit_after state (sorts ends_all) steps s next f next_file step fit) (same_from next next (ahead state s steps) (ahead state next steps) refl same after) rest
      (all_two round_by s.round next.round s.held.sorter next.held.sorter step.0.ended two)
  two_after (sorts releases ∷ steps) s t f g none fit from (next, (next_file, step, rest)) two =
      let some = (half_released (unplaced_of s) s next step.0).1.has_budget in absurd (omega (arith, some, none))
  two_after (sorts (returns key held) ∷ steps) s t f g none fit from (next, (next_file, step, rest)) two =
      let same : ahead state s (sorts (returns key held) ∷ steps) ≡ ahead state next steps = ap (λ p. pending_timed p ++ timed_of (read_in steps)) (sym step.0.pending) in
      two_after steps next t next_file g (step.0.budget ∙ none) (fit_after state (sorts (returns key held)) steps s next f next_file step fit) (same_from s next (ahead state s steps) (ahead state next steps) step.0.round same from) rest
      (subst (λ n. TwoRounds round_by n next.held.sorter) (sym step.0.round) (returned_two round_by s.round s.held.sorter next.held.sorter key held step.0.returned two))
  two_after (sorts keeps ∷ steps) s t f g none fit from (next, (next_file, step, rest)) two =
      let same : ahead state s (sorts keeps ∷ steps) ≡ ahead state next steps = ap (λ p. pending_timed p ++ timed_of (read_in steps)) (sym step.0.pending) in
      two_after steps next t next_file g (step.0.same_budget.budget ∙ none) (fit_after state (sorts keeps) steps s next f next_file step fit) (same_from s next (ahead state s steps) (ahead state next steps) step.0.round same from) rest
      (subst (λ n. TwoRounds round_by n next.held.sorter) (sym step.0.round) (kept_two round_by s.round s.held.sorter next.held.sorter step.0.unchanged two))
  two_after (reports e ∷ steps) s t f g none fit from (next, (next_file, step, rest)) two =
      let same : ahead state s (reports e ∷ steps) ≡ ahead state next steps =
      ap (λ p. pending_timed p ++ timed_of (read_in steps)) step.0.was_pending ∙ ap (λ p. pending_timed p ++ timed_of (read_in steps)) (sym step.0.pending) in
      two_after steps next t next_file g (step.0.same_order.same_budget.budget ∙ none) (fit_after state (reports e) steps s next f next_file step fit) (same_from s next (ahead state s steps) (ahead state next steps) step.0.same_order.round same from) rest
      (same_two round_by s.round next.round s.held.sorter next.held.sorter step.0.same_order.round step.0.same_order.sorter two)

  pub holds_two_rounds : OffsetsIncrease → HoldsTwoRounds state
  holds_two_rounds increase records first last file file' steps new taken layout =
      let times = timed_of (read_in steps) in
      let none : ahead state first steps ≡ times = ap (λ p. pending_timed p ++ times) new.pending in
      let all : All (λ y. 0 ≤ y.0) times = λ i d lt. omega arith in
      let start : FromRound first times = record {
        from_round = subst (λ k. All (λ y. k ≤ y.0) times) (sym new.round) all;
      } in
      (two_after steps first last file file' new.budget (new_fits state records 0 first (read_in steps) new (rounds_follow increase (read_in steps) layout)) (same_from first first times (ahead state first steps) refl (sym none) start) taken
      (subst (λ n. TwoRounds round_by n first.held.sorter) (sym new.round) (new_two round_by first.held.sorter new.empty))).recent
