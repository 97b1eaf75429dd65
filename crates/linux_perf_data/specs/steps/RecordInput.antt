-- Steps of private functions: the input of an iterator: a section of a file, or a pipe, which may have a pending header.
use Rattle.std.specs.Prelude.{◌≡◌, ◌≢◌, Option, None, Some, Result, Ok, Err}
use Rattle.perfdata_sources.specs.declared.event.record_header.PerfEventHeader.{PerfEventHeader}
use Rattle.perfdata_sections.specs.declared.error.Error.{Error}
use Rattle.linux_perf_data.specs.declared.records.input.RecordInput.{RecordInput}
use Rattle.linux_perf_data.specs.RecordInput.{section_size_in, HasNoPendingHeader}

-- The pending header is consumed. The section size is unchanged.
pub record TakesPendingHeader (old new : RecordInput) : Type 0 where
  pub section_size : section_size_in new ≡ section_size_in old
  pub no_pending_header : HasNoPendingHeader new

-- A truncated record ends a pipe, and is an error in a file.
abbrev pub AnswersTruncation : RecordInput → Error → Result (Option PerfEventHeader) Error → Type 0
AnswersTruncation input e (Ok None) = section_size_in input ≡ None
AnswersTruncation input e (Ok (Some header)) = ⊥
AnswersTruncation input e (Err e') = (section_size_in input ≢ None) × (e' ≡ e)
