-- What the end of a round releases is returned before more is read.
use Rattle.std.proofs.Common.{◌≡◌, ◌+◌, ℕ, List, [], ◌∷◌, None, Some, refl, sym, ap, ◌∙◌, subst, arith, zero-add}
use Rattle.perfdata_sources.specs.Source.{State}
use Rattle.linux_perf_data.specs.declared.perf_file.PerfFile.{PerfFile}
use Rattle.linux_perf_data.specs.Layout.{RecordView}
use Rattle.perfdata_order.specs.declared.streaming.OrderedRecords.{OrderedRecords}
use Rattle.perfdata_order.specs.Sorter.{available_of}
use Rattle.perfdata_order.specs.declared.held_record.HeldRecord.{HeldRecord}
use Rattle.perfdata_order.specs.SorterLaws.{Call}
use Rattle.perfdata_order.specs.SorterLaws.Call.{inserts, ends_round, ends_all, releases, returns, keeps}
use Rattle.perfdata_order.specs.StreamingOrder.{Unplaced, unplaced_of, after_round, Step, TakesStep, TakesSteps, IsOneRoundLater, IsLaterOrLast}
use Rattle.perfdata_order.specs.StreamingOrder.Unplaced.{nothing, waiting, round_ending, ending, failing, failed}
use Rattle.perfdata_order.specs.StreamingOrder.Step.{reads, reads_round_end, passes, reads_end, reads_error, sorts, reports}
use Rattle.perfdata_order.specs.StreamingLaws.{IsRead, ReadNothing, rounds_ended_by, rounds_ended_in, ReturnsReleasedBeforeReading}
use Rattle.perfdata_order.proofs.StreamingSteps.{half_released}

-- Nothing is pending, or the end of a round.
abbrev IsBetween : Unplaced → Type 0
IsBetween nothing = Unit {0}
IsBetween (waiting key h) = ⊥
IsBetween round_ending = Unit {0}
IsBetween ending = ⊥
IsBetween (failing e) = ⊥
IsBetween failed = ⊥

-- 1 if the end of a round is pending.
abbrev ends_pending : Unplaced → ℕ
ends_pending nothing = 0
ends_pending (waiting key h) = 0
ends_pending round_ending = 1
ends_pending ending = 0
ends_pending (failing e) = 0
ends_pending failed = 0

-- One round ends: it was pending, and nothing is.
one_ended : (q : Unplaced) (old new : ℕ) → IsBetween q → IsOneRoundLater q old new → (ends_pending q ≡ 1) × (after_round q ≡ nothing)
one_ended nothing old new between one = absurd one
one_ended (waiting key h) old new between one = absurd between
one_ended round_ending old new between one = (refl, refl)
one_ended ending old new between one = absurd between
one_ended (failing e) old new between one = absurd between
one_ended failed old new between one = absurd between

not_all : (q : Unplaced) (old new : ℕ) → IsBetween q → IsLaterOrLast q old new → ⊥
not_all nothing old new between later = later
not_all (waiting key h) old new between later = between
not_all round_ending old new between later = later
not_all ending old new between later = between
not_all (failing e) old new between later = between
not_all failed old new between later = between

more_ended : (one more first rest : ℕ) → one ≡ first → more ≡ rest → one + more ≡ first + rest
more_ended one more first rest same same_rest = omega (arith, same, same_rest)

module _ {R : Type 0} (state : R → State) where
  -- What steps that read nothing do, if nothing or the end of a round is pending before them.
  record Between (steps : List Step) (s t : OrderedRecords R) : Type 0 where
    counts : unplaced_of t ≡ nothing → rounds_ended_in steps ≡ ends_pending (unplaced_of s)
    same_records : t.records ≡ s.records

  kept_between : (call : Call ℕ HeldRecord) (steps : List Step) (s next t : OrderedRecords R) → rounds_ended_by call ≡ 0 → unplaced_of next ≡ unplaced_of s → next.records ≡ s.records → Between steps next t → Between (sorts call ∷ steps) s t
  kept_between call steps s next t zero pending same b = record {
    counts = λ none. more_ended (rounds_ended_by call) (rounds_ended_in steps) 0 (ends_pending (unplaced_of s)) zero (b.counts none ∙ ap ends_pending pending) ∙ zero-add (ends_pending (unplaced_of s));
    same_records = b.same_records ∙ same;
  }

  between : (steps : List Step) (s t : OrderedRecords R) (f g : PerfFile) → IsBetween (unplaced_of s) → ReadNothing steps → TakesSteps state steps s f t g → Between steps s t
  between [] s t f g pending unread (same, same_file) = record {
    counts = λ none. sym (ap ends_pending (sym (ap (λ x. unplaced_of x) same) ∙ none));
    same_records = ap (λ x. x.records) same;
  }
  between (reads key h ∷ steps) s t f g pending unread taken = absurd (unread.0 tt)
  between (reads_round_end ended ∷ steps) s t f g pending unread taken = absurd (unread.0 tt)
  between (passes h ∷ steps) s t f g pending unread (next, (next_file, step, rest)) = absurd (subst (λ q. IsBetween q) step.0.was_pending pending)
  between (reads_end ∷ steps) s t f g pending unread taken = absurd (unread.0 tt)
  between (reads_error e ∷ steps) s t f g pending unread taken = absurd (unread.0 tt)
  between (sorts (inserts key held) ∷ steps) s t f g pending unread (next, (next_file, step, rest)) = absurd (subst (λ q. IsBetween q) step.0.was_pending pending)
  between (sorts ends_round ∷ steps) s t f g pending unread (next, (next_file, step, rest)) =
      let ended = one_ended (unplaced_of s) s.round next.round pending step.0.round in
      let now = step.0.pending ∙ ended.1 in
      let b = between steps next t next_file g (subst (λ q. IsBetween q) (sym now) tt) unread.1 rest in
      record {
        counts = λ none. more_ended 1 (rounds_ended_in steps) 1 0 refl (b.counts none ∙ ap ends_pending now) ∙ sym ended.0;
        same_records = b.same_records ∙ step.0.same_records;
      }
  between (sorts ends_all ∷ steps) s t f g pending unread (next, (next_file, step, rest)) = absurd (not_all (unplaced_of s) s.round next.round pending step.0.round)
  between (sorts releases ∷ steps) s t f g pending unread (next, (next_file, step, rest)) =
      let early = (half_released (unplaced_of s) s next step.0).1 in
      kept_between releases steps s next t refl early.pending early.same_records (between steps next t next_file g (subst (λ q. IsBetween q) (sym early.pending) pending) unread.1 rest)
  between (sorts (returns key held) ∷ steps) s t f g pending unread (next, (next_file, step, rest)) =
      kept_between (returns key held) steps s next t refl step.0.pending step.0.same_records (between steps next t next_file g (subst (λ q. IsBetween q) (sym step.0.pending) pending) unread.1 rest)
  between (sorts keeps ∷ steps) s t f g pending unread (next, (next_file, step, rest)) =
      kept_between keeps steps s next t refl step.0.pending step.0.same_records (between steps next t next_file g (subst (λ q. IsBetween q) (sym step.0.pending) pending) unread.1 rest)
  between (reports e ∷ steps) s t f g pending unread (next, (next_file, step, rest)) = absurd (subst (λ q. IsBetween q) step.0.was_pending pending)

  -- Before a step that reads, nothing is pending and nothing is available.
  read_before : (step : Step) (s t : OrderedRecords R) (f g : PerfFile) → TakesStep state step s f t g → IsRead step → (unplaced_of s ≡ nothing) × (available_of s.held.sorter ≡ [])
  read_before (reads key h) s t f g taken is = (taken.nothing_pending, taken.none_available)
  read_before (reads_round_end ended) s t f g taken is = (taken.nothing_pending, taken.none_available)
  read_before (passes h) s t f g taken is = absurd is
  read_before reads_end s t f g taken is = (taken.nothing_pending, taken.none_available)
  read_before (reads_error e) s t f g taken is = (taken.nothing_pending, taken.none_available)
  read_before (sorts call) s t f g taken is = absurd is
  read_before (reports e) s t f g taken is = absurd is

  pub returns_released_before_reading : ReturnsReleasedBeforeReading state
  returns_released_before_reading ended steps step first after before last file after_file before_file file' marker taken unread next is =
      let at = read_before step before last before_file file' next is in
      let b = between steps after before after_file before_file (subst (λ q. IsBetween q) (sym marker.pending) tt) unread taken in
      (b.counts at.0 ∙ ap ends_pending marker.pending, b.same_records, at.1)
