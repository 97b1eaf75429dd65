use Rattle.std.proofs.Common.{arith, [], ◌∷◌, ◌++◌, length-append, refl, ap, ◌∙◌, subst, Some, Ok, inl, inr}
use Rattle.std.proofs.lemmas.Result.{err_from_is_err_and}
use Rattle.linux_perf_data.specs.RecordViews.{record_view_of}
use Rattle.linux_perf_data.specs.Iter.{NextRecord}
use Rattle.test_rows.proofs.OpeningErrors.{file_open_error}
use Rattle.test_rows.proofs.examples.count.count_records.Invariants.{state}
use Rattle.test_rows.proofs.examples.count.count_records.Goals as goal

pub records-init : goal.records-init
records-init c =
    let opened = c.in_ok-reader.ensures.parses in
    let start = opened.at_first_record.offset in
    record {
      offset_in_range = omega (arith, start);
      count_below_offset = omega arith;
      opened = (state c.new.result, (λ i. Some (record { all_bytes = (c.new.ensures.inner i).now; offset = c.new.ensures.position i })), refl, opened);
      returned = ([], refl, c.consecutive_calls.ensures.none _ _);
    }

pub overflow_add-count : goal.overflow_add-count
overflow_add-count c =
    let rested = c.next_record.follows.lender-at-none in
    let nexts = subst (λ r. NextRecord state (λ _. 0) c.records.records c.records.perf_file r rested c.next_record.new.perf_file) (c.in-Ok-Some.is ∙ ap Ok c.in-Ok-Some.field-0-is) c.next_record.follows.holds-at-none in
    let step = nexts.0 in
    let below = c.records.invariant.count_below_offset in
    let record_offset = step.record_offset in
    let offset = step.offset in
    let fits = step.offset_fits in
    omega (arith, below, record_offset, offset, fits)

pub records-preserved : goal.records-preserved
records-preserved c =
    let before = c.records.invariant in
    let rested = c.next_record.follows.lender-at-none in
    let nexts = subst (λ r. NextRecord state (λ _. 0) c.records.records c.records.perf_file r rested c.next_record.new.perf_file) (c.in-Ok-Some.is ∙ ap Ok c.in-Ok-Some.field-0-is) c.next_record.follows.holds-at-none in
    let step = nexts.0 in
    let below = before.count_below_offset in
    let record_offset = step.record_offset in
    let offset = step.offset in
    let count = before.returned.1 in
    let h = record_view_of c.in-Ok-Some._place c.in-Ok-Some._record in
    record {
      offset_in_range = step.offset_fits;
      count_below_offset = omega (arith, below, record_offset, offset);
      opened = before.opened;
      returned = (
        before.returned.0 ++ h ∷ [],
        omega (arith, count, length-append before.returned.0 (h ∷ [])),
        c.consecutive_calls.ensures.more _ c.records.records rested _ c.records.perf_file c.next_record.new.perf_file before.returned.0 h before.returned.2 step,
      );
    }

pub returns-in-Ok-None-clause-count : goal.returns-in-Ok-None-clause-count
returns-in-Ok-None-clause-count c =
    let before = c.records.invariant in
    let rested = c.next_record.follows.lender-at-none in
    let at_end = subst (λ r. NextRecord state (λ _. 0) c.records.records c.records.perf_file r rested c.next_record.new.perf_file) (c.in-Ok-None.is ∙ ap Ok c.in-Ok-None.field-0-is) c.next_record.follows.holds-at-none in
    let whole = (c.file_reading.ensures.end _ before.opened.0 _ c.records.perf_file c.next_record.new.perf_file _ c.records.records rested before.returned.0 before.opened.1 before.opened.3 before.returned.2 at_end.0).0 in
    (c.in_ok-reader.reader.perf_file, (whole.header, whole.describes, (before.returned.0, whole.all_records, before.returned.1)))

pub returns-in-Err-clause-error : goal.returns-in-Err-clause-error
returns-in-Err-clause-error c = λ other.
    let before = c.records.invariant in
    let rested = c.next_record.follows.lender-at-none in
    let failed = subst (λ r. NextRecord state (λ _. 0) c.records.records c.records.perf_file r rested c.next_record.new.perf_file) c.in-Err.is c.next_record.follows.holds-at-none in
    elim (c.file_reading.ensures.to_error _ before.opened.0 _ c.records.perf_file c.next_record.new.perf_file _ c.records.records rested before.returned.0 c.in-Err.error before.opened.1 before.opened.3 before.returned.2 failed.0 other).0 [
      | inl ends ↦ inr (c.in_ok-reader.reader.perf_file, (before.returned.0, ends))
      | inr source ↦ absurd (source.not_steady before.opened.2)
    ]

pub returns-in_err-reader-clause-error : goal.returns-in_err-reader-clause-error
returns-in_err-reader-clause-error c =
    let p = err_from_is_err_and c.from_residual.result c.from_residual.ensures.1 in
    rw (p.1, p.2) (λ other. inl (file_open_error (state c.new.result) refl _ _ (λ i. Some (record { all_bytes = (c.new.ensures.inner i).now; offset = c.new.ensures.position i })) c.in_err-reader.ensures.parses other))
