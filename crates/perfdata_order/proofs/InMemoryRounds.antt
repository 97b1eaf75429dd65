-- The rounds of the records of an input in memory that are held.
use Rattle.std.proofs.Common.{◌≡◌, ℕ, ◌+◌, ◌≤◌, List, [], ◌∷◌, ◌++◌, All, refl, sym, ap, ◌∙◌, subst, inl, inr, arith}
use Rattle.std.specs.Prelude.{◌⊎◌}
use Rattle.std.proofs.lemmas.List.Elements.{All-head, All-tail}
use Rattle.linux_perf_data.specs.declared.perf_file.PerfFile.{PerfFile}
use Rattle.linux_perf_data.specs.Laws.{OffsetsIncrease}
use Rattle.perfdata_order.specs.declared.in_memory.InMemoryOrderedRecords.{InMemoryOrderedRecords}
use Rattle.perfdata_order.specs.Times.{time_key_of}
use Rattle.perfdata_order.specs.SorterLaws.Call.{inserts, ends_round, ends_all, releases, returns, keeps}
use Rattle.perfdata_order.specs.InMemoryOrder.{Entry, Step, TakesSteps}
use Rattle.perfdata_order.specs.InMemoryOrder.Step.{reads, passes, reads_end, reads_error, sorts, reports}
use Rattle.perfdata_order.specs.InMemoryLaws.{read_in, timed_by, timed_of, HoldsTwoRounds}
use Rattle.perfdata_order.proofs.HeldRounds.{TwoRounds, inserted_two, round_two, all_two, returned_two, kept_two, same_two, new_two}
use Rattle.perfdata_order.proofs.LayoutRounds.{rounds_follow}
use Rattle.perfdata_order.proofs.PerfRule.{Timed, views, IsFinal, RoundsRise, pending_timed, ahead, one_round, later_rounds, rise_after}

abbrev round_by : Entry → ℕ
round_by entry = entry.0.round

record FromRound (s : InMemoryOrderedRecords) (times : List Timed) : Type 0 where
  from_round : All (λ y. s.round ≤ y.0) times

same_from : (s t : InMemoryOrderedRecords) (before after : List Timed) → t.round ≡ s.round → before ≡ after → FromRound s before → FromRound t after
same_from s t before after same_round same from = record {
  from_round = subst (λ k. All (λ y. k ≤ y.0) after) (sym same_round) (subst (λ es. All (λ y. s.round ≤ y.0) es) same from.from_round);
}

-- After the end of rounds before the pending record, or of all.
later_from : (s next : InMemoryOrderedRecords) (times : List Timed) → ((s.round + 2 ≤ next.round) × All (λ y. next.round ≤ y.0) times) ⊎ ((next.round ≡ s.round) × IsFinal s.pending) → FromRound s times → FromRound next times
later_from s next times (inl (later, all)) from = record { from_round = all }
later_from s next times (inr (same_round, final)) from = same_from s next times times same_round refl from

two_after : (steps : List Step) (s t : InMemoryOrderedRecords) (f g : PerfFile) → RoundsRise s.pending (read_in steps) → FromRound s (ahead s steps) → TakesSteps steps s f t g → TwoRounds round_by s.round s.sorter → TwoRounds round_by t.round t.sorter
two_after [] s t f g rise from (same, same_file) two = same_two round_by s.round t.round s.sorter t.sorter (ap (λ x. x.round) same) (ap (λ x. x.sorter) same) two
two_after (reads key place r ∷ steps) s t f g rise from (next, (next_file, step, rest)) two =
    let same : ahead s (reads key place r ∷ steps) ≡ ahead next steps =
    ap (λ p. pending_timed p ++ (timed_by (time_key_of place) (place, r) ++ timed_of (read_in steps))) step.nothing_pending ∙ ap (λ k. timed_by k (place, r) ++ timed_of (read_in steps)) step.has_time
    ∙ ap (λ p. pending_timed p ++ timed_of (read_in steps)) (sym step.pending) in
    two_after steps next t next_file g (rise_after (reads key place r) steps s next f next_file step rise) (same_from s next (ahead s (reads key place r ∷ steps)) (ahead next steps) step.same_order.round same from) rest
    (same_two round_by s.round next.round s.sorter next.sorter step.same_order.round step.same_order.sorter two)
two_after (passes place r ∷ steps) s t f g rise from (next, (next_file, step, rest)) two =
    let same : ahead s (passes place r ∷ steps) ≡ ahead next steps =
    ap (λ p. pending_timed p ++ timed_of (read_in steps)) step.0.was_pending ∙ ap (λ p. pending_timed p ++ timed_of (read_in steps)) (sym step.0.pending) in
    two_after steps next t next_file g (rise_after (passes place r) steps s next f next_file step rise) (same_from s next (ahead s (passes place r ∷ steps)) (ahead next steps) step.0.same_order.round same from) rest
    (same_two round_by s.round next.round s.sorter next.sorter step.0.same_order.round step.0.same_order.sorter two)
two_after (reads_end ∷ steps) s t f g rise from (next, (next_file, step, rest)) two =
    let same : ahead s (reads_end ∷ steps) ≡ ahead next steps =
    ap (λ p. pending_timed p ++ timed_of (read_in steps)) step.nothing_pending ∙ ap (λ p. pending_timed p ++ timed_of (read_in steps)) (sym step.pending) in
    two_after steps next t next_file g (rise_after reads_end steps s next f next_file step rise) (same_from s next (ahead s (reads_end ∷ steps)) (ahead next steps) step.same_order.round same from) rest
    (same_two round_by s.round next.round s.sorter next.sorter step.same_order.round step.same_order.sorter two)
two_after (reads_error e ∷ steps) s t f g rise from (next, (next_file, step, rest)) two =
    let same : ahead s (reads_error e ∷ steps) ≡ ahead next steps =
    ap (λ p. pending_timed p ++ timed_of (read_in steps)) step.nothing_pending ∙ ap (λ p. pending_timed p ++ timed_of (read_in steps)) (sym step.pending) in
    two_after steps next t next_file g (rise_after (reads_error e) steps s next f next_file step rise) (same_from s next (ahead s (reads_error e ∷ steps)) (ahead next steps) step.same_order.round same from) rest
    (same_two round_by s.round next.round s.sorter next.sorter step.same_order.round step.same_order.sorter two)
two_after (sorts (inserts key entry) ∷ steps) s t f g rise from (next, (next_file, step, rest)) two =
    let times = timed_of (read_in steps) in
    let more : ahead s (sorts (inserts key entry) ∷ steps) ≡ (entry.0.round, (key, entry)) ∷ times = ap (λ p. pending_timed p ++ times) step.0.was_pending in
    let left : ahead next steps ≡ times = ap (λ p. pending_timed p ++ times) step.0.pending in
    let here = same_from s s (ahead s (sorts (inserts key entry) ∷ steps)) ((entry.0.round, (key, entry)) ∷ times) refl more from in
    let first = All-head (λ y. s.round ≤ y.0) (entry.0.round, (key, entry)) times here.from_round in
    let last = step.0.in_round in
    let after : FromRound s times = record { from_round = All-tail (λ y. s.round ≤ y.0) (entry.0.round, (key, entry)) times here.from_round } in
    two_after steps next t next_file g (rise_after (sorts (inserts key entry)) steps s next f next_file step rise) (same_from s next times (ahead next steps) step.0.round (sym left) after) rest
    (subst (λ n. TwoRounds round_by n next.sorter) (sym step.0.round) (inserted_two round_by s.round s.sorter next.sorter key entry (omega (arith, first, last)) step.0.inserted two))
two_after (sorts ends_round ∷ steps) s t f g rise from (next, (next_file, step, rest)) two =
    let same : ahead s (sorts ends_round ∷ steps) ≡ ahead next steps = ap (λ p. pending_timed p ++ timed_of (read_in steps)) (sym step.0.pending) in
    let ended = one_round s.pending (read_in steps) s.round next.round step.0.round rise in
    let after : FromRound next (ahead s steps) = record { from_round = ended.1 } in
    two_after steps next t next_file g (rise_after (sorts ends_round) steps s next f next_file step rise) (same_from next next (ahead s steps) (ahead next steps) refl same after) rest
    (subst (λ n. TwoRounds round_by n next.sorter) (sym ended.0) (round_two round_by s.round s.sorter next.sorter step.0.ended two))
two_after (sorts ends_all ∷ steps) s t f g rise from (next, (next_file, step, rest)) two =
    let same : ahead s (sorts ends_all ∷ steps) ≡ ahead next steps = ap (λ p. pending_timed p ++ timed_of (read_in steps)) (sym step.0.pending) in
    let after = later_from s next (ahead s steps) (later_rounds s.pending (read_in steps) s.round next.round step.0.round rise) from in
    two_after steps next t next_file g (rise_after (sorts ends_all) steps s next f next_file step rise) (same_from next next (ahead s steps) (ahead next steps) refl same after) rest
    (all_two round_by s.round next.round s.sorter next.sorter step.0.ended two)
two_after (sorts releases ∷ steps) s t f g rise from (next, (next_file, step, rest)) two = absurd step.0
two_after (sorts (returns key entry) ∷ steps) s t f g rise from (next, (next_file, step, rest)) two =
    let same : ahead s (sorts (returns key entry) ∷ steps) ≡ ahead next steps = ap (λ p. pending_timed p ++ timed_of (read_in steps)) (sym step.0.pending) in
    two_after steps next t next_file g (rise_after (sorts (returns key entry)) steps s next f next_file step rise) (same_from s next (ahead s steps) (ahead next steps) step.0.round same from) rest
    (subst (λ n. TwoRounds round_by n next.sorter) (sym step.0.round) (returned_two round_by s.round s.sorter next.sorter key entry step.0.returned two))
two_after (sorts keeps ∷ steps) s t f g rise from (next, (next_file, step, rest)) two =
    let same : ahead s (sorts keeps ∷ steps) ≡ ahead next steps = ap (λ p. pending_timed p ++ timed_of (read_in steps)) (sym step.0.pending) in
    two_after steps next t next_file g (rise_after (sorts keeps) steps s next f next_file step rise) (same_from s next (ahead s steps) (ahead next steps) step.0.round same from) rest
    (subst (λ n. TwoRounds round_by n next.sorter) (sym step.0.round) (kept_two round_by s.round s.sorter next.sorter step.0.unchanged two))
two_after (reports e ∷ steps) s t f g rise from (next, (next_file, step, rest)) two =
    let same : ahead s (reports e ∷ steps) ≡ ahead next steps =
    ap (λ p. pending_timed p ++ timed_of (read_in steps)) step.0.was_pending ∙ ap (λ p. pending_timed p ++ timed_of (read_in steps)) (sym step.0.pending) in
    two_after steps next t next_file g (rise_after (reports e) steps s next f next_file step rise) (same_from s next (ahead s steps) (ahead next steps) step.0.same_order.round same from) rest
    (same_two round_by s.round next.round s.sorter next.sorter step.0.same_order.round step.0.same_order.sorter two)

pub holds_two_rounds : OffsetsIncrease → HoldsTwoRounds
holds_two_rounds increase records first last file file' steps new taken layout =
    let times = timed_of (read_in steps) in
    let none : ahead first steps ≡ times = ap (λ p. pending_timed p ++ times) new.pending in
    let all : All (λ y. 0 ≤ y.0) times = λ i d lt. omega arith in
    let start : FromRound first times = record {
      from_round = subst (λ k. All (λ y. k ≤ y.0) times) (sym new.round) all;
    } in
    (two_after steps first last file file' (subst (λ q. RoundsRise q (read_in steps)) (sym new.pending) (rounds_follow increase (views (read_in steps)) layout)) (same_from first first times (ahead first steps) refl (sym none) start) taken
    (subst (λ n. TwoRounds round_by n first.sorter) (sym new.round) (new_two round_by first.sorter new.empty))).recent
