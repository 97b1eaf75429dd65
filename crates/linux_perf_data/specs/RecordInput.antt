-- The input of an iterator: a section of a file, or a pipe, which may have a pending header.
use Rattle.std.specs.Prelude.{◌≡◌, ℕ, List, [], Option, None, Some}
use Rattle.perfdata_sources.specs.Source.{State, prepend}
use Rattle.linux_perf_data.specs.declared.records.input.RecordInput.{RecordInput}
use Rattle.linux_perf_data.specs.declared.records.input.RecordInput.TheVariants.{Section, Pipe}
use Rattle.linux_perf_data.specs.Layout.{SectionSize}

-- The size of the section that contains the records; `None` in a pipe.
abbrev pub section_size_in : RecordInput → SectionSize
section_size_in (Section size) = Some size
section_size_in (Pipe kept) = None

-- The input has no pending header.
abbrev pub HasNoPendingHeader : RecordInput → Type 0
HasNoPendingHeader (Section size) = Unit {0}
HasNoPendingHeader (Pipe kept) = kept ≡ None

-- The source with `leading` before its remaining bytes. Its position is unspecified.
abbrev pub with_leading_bytes : List ℕ → State → State
with_leading_bytes leading s = record { bytes = prepend leading s.bytes; errors = s.errors; pauses = s.pauses; steady = s.steady; position = None }

abbrev pub with_pending_header : Option (List ℕ) → State → State
with_pending_header None s = with_leading_bytes [] s
with_pending_header (Some header) s = with_leading_bytes header s

-- The source as the iterator sees it. In a pipe, the pending header precedes the remaining bytes.
abbrev pub input_source_state : RecordInput → State → State
input_source_state (Section size) s = s
input_source_state (Pipe kept) s = with_pending_header kept s
