-- The result for a truncated raw record: the end in a pipe, an error in a file.
use Rattle.std.proofs.Common.{◌≡◌, ◌≢◌, length, sym, ◌∙◌, subst, Option, None, Some}
use Rattle.std.specs.Prelude.{Result, Ok}
use Rattle.perfdata_sources.specs.Source.{State}
use Rattle.perfdata_sources.specs.declared.event.record_header.PerfEventHeader.{PerfEventHeader}
use Rattle.perfdata_sections.specs.declared.error.Error.{Error}
use Rattle.linux_perf_data.specs.declared.records.iter.PerfRecordIter.{PerfRecordIter}
use Rattle.linux_perf_data.specs.RecordInput.{HasNoPendingHeader}
use Rattle.linux_perf_data.specs.steps.RecordInput.{AnswersTruncation}
use Rattle.linux_perf_data.specs.steps.RecordFraming.{RecordTruncatedAt, RecordErrorAt}
use Rattle.linux_perf_data.specs.Iter.{iter_source_state, section_size_of, SameInput}
use Rattle.linux_perf_data.specs.steps.IterSteps.{RawRecordRead, RawRecordTruncated, ReadsRawRecord}
use Rattle.linux_perf_data.proofs.SourceViews.{truncated_by}

module _ {R : Type 0} (state : R → State) where
  pub record_truncated : (old new : PerfRecordIter R) (e : Error) (r : Result (Option PerfEventHeader) Error) → AnswersTruncation new.input e r → SameInput state old new → new.offset ≡ old.offset → new.round ≡ old.round → new.attribute_lookup ≡ old.attribute_lookup → HasNoPendingHeader new.input
      → (section_size_of state old ≡ None → RecordTruncatedAt old.endian (iter_source_state state old) old.offset (length new.body.items) (iter_source_state state new))
      → (section_size_of state old ≢ None → RecordErrorAt old.endian (iter_source_state state old) (section_size_of state old) old.offset e (length new.body.items) (iter_source_state state new)) → ReadsRawRecord state old r new
  record_truncated old new e r answers same offset round known unread pipe file =
      truncated_by new.input e r (λ r. ReadsRawRecord state old r new) answers
      (λ none. let is = sym same.section_size ∙ none in record { in_pipe = is; is_truncated = pipe is; offset = offset; round = round; same_input = same; attribute_lookup = known; no_pending_header = unread })
      (λ some. record { error = file (λ none. some (same.section_size ∙ none)); offset = offset; round = round; same_input = same; attribute_lookup = known; no_pending_header = unread })

  -- a call that returns a record header has read that raw record
  pub some_record : (old new : PerfRecordIter R) (r : Option PerfEventHeader) (header : PerfEventHeader) → r ≡ Some header → ReadsRawRecord state old (Ok r) new → RawRecordRead state old header new
  some_record old new r header is next = subst (λ o. ReadsRawRecord state old (Ok o) new) is next

  pub no_record : (old new : PerfRecordIter R) (r : Option PerfEventHeader) → r ≡ None → ReadsRawRecord state old (Ok r) new → RawRecordTruncated state old new
  no_record old new r is next = subst (λ o. ReadsRawRecord state old (Ok o) new) is next
