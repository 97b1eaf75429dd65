-- The contracts of a reader of a file or a pipe in memory.
use Rattle.std.specs.Prelude.{◌≡◌, ℕ, ◌+◌, ◌≤◌, List, [], ◌∷◌, ◌++◌, length, take, drop, Vec, Option, None, Some, Result, Ok, Err}
use Rattle.std.specs.declared.alloc.Global.{Global}
use Rattle.perfdata_sources.specs.Source.{memory_source_at}
use Rattle.perfdata_sources.specs.Raw.{bytes_of, IsSingle}
use Rattle.perfdata_sections.specs.declared.error.Error.{Error}
use Rattle.perfdata_sections.specs.declared.error.Error.TheVariants.{Memory}
use Rattle.perfdata_records.specs.declared.record.PerfFileRecord.{PerfFileRecord}
use Rattle.linux_perf_data.specs.declared.records.iter.RecordPlace.{RecordPlace}
use Rattle.linux_perf_data.specs.declared.perf_file.PerfFile.{PerfFile}
use Rattle.linux_perf_data.specs.declared.in_memory.InMemoryRecords.{InMemoryRecords}
use Rattle.linux_perf_data.specs.declared.in_memory.InMemoryReader.{InMemoryReader}
use Rattle.linux_perf_data.specs.declared.records.iter.Stage.TheVariants.{Running}
use Rattle.linux_perf_data.specs.Reading.{ReturnsRecords}
use Rattle.linux_perf_data.specs.Layout.{RecordView}
use Rattle.perfdata_records.specs.FileRecord.{file_record_body}
use Rattle.linux_perf_data.specs.RecordViews.{record_view_of}
use Rattle.linux_perf_data.specs.Iter.{section_size_of, ReturnsRecord, ReturnsEnd, ReturnsError, ConsumesMetadata}
use Rattle.linux_perf_data.specs.OpenedFile.{FileParsed, FileParseError}
use Rattle.linux_perf_data.specs.OpenedPipe.{PipeParsed, PipeParseError}
use Rattle.linux_perf_data.specs.InMemory.{memory_state, with_buffer}

-- All bytes of the input.
abbrev pub input_of : InMemoryRecords → List ℕ
input_of records = records.input.now

-- The offset in the input at which the header of the first record starts.
abbrev pub first_record_offset_of : InMemoryRecords → ℕ
first_record_offset_of records = records.first_record_offset

-- The input and the offset of its first record are unchanged.
pub record KeepsInput (old new : InMemoryRecords) : Type 0 where
  pub input : input_of new ≡ input_of old
  pub first_record_offset : first_record_offset_of new ≡ first_record_offset_of old

-- The body is one slice: these bytes of the input. It ends in the input.
pub record IsSliceOfInput (records : InMemoryRecords) (place : RecordPlace) (r : PerfFileRecord) : Type 0 where
  pub single : IsSingle (file_record_body r)
  pub ends_in_input : first_record_offset_of records + place.offset + 8 + length (bytes_of (file_record_body r)) ≤ length (input_of records)
  pub bytes : bytes_of (file_record_body r)
      ≡ take (length (bytes_of (file_record_body r))) (drop (first_record_offset_of records + place.offset + 8) (input_of records))

-- A record was returned, as a streaming iterator over the same bytes returns it, whose buffer then is `buffer`. The body is a
-- slice of the input.
pub record ReturnsRecordInMemory (old : InMemoryRecords) (file : PerfFile) (place : RecordPlace) (r : PerfFileRecord) (new : InMemoryRecords)
    (file' : PerfFile) : Type 0 where
  pub buffer : Vec ℕ Global
  pub returns : ReturnsRecord memory_state old.records file (record_view_of place r) (with_buffer new.records buffer) file'
  pub in_input : IsSliceOfInput old place r

-- The result of a call. The end and the errors are those of a streaming iterator over the same bytes.
abbrev pub ReturnsNextInMemory : InMemoryRecords → PerfFile → Result (Option (RecordPlace × PerfFileRecord)) Error → InMemoryRecords → PerfFile → Type 0
ReturnsNextInMemory old file (Ok (Some r)) new file' = ReturnsRecordInMemory old file r.0 r.1 new file'
ReturnsNextInMemory old file (Ok None) new file' = ReturnsEnd memory_state old.records file new.records file'
ReturnsNextInMemory old file (Err e) new file' = ReturnsError memory_state old.records file e new.records file'

-- Memory runs out in a pipe only.
abbrev pub NeedsMemoryInPipeOnly : {A : Type 0} → InMemoryRecords → Result A Error → Type 0
NeedsMemoryInPipeOnly old (Ok next) = Unit {0}
NeedsMemoryInPipeOnly old (Err e) = e ≡ Memory → section_size_of memory_state old.records ≡ None

-- Memory runs out only for a whole metadata record of a pipe.
abbrev pub NeedsMemoryForMetadataOnly : {A : Type 0} → InMemoryRecords → Result A Error → InMemoryRecords → Type 0
NeedsMemoryForMetadataOnly old (Ok next) new = Unit {0}
NeedsMemoryForMetadataOnly old (Err e) new = e ≡ Memory → ConsumesMetadata memory_state old.records new.records

-- A file was parsed, as a streaming reader of the same bytes parses it.
abbrev pub ParsesFileInMemory : List ℕ → Result InMemoryReader Error → Type 0
ParsesFileInMemory bytes (Ok r) = FileParsed memory_state (memory_source_at bytes 0) r.perf_file r.records.records × (input_of r.records ≡ bytes)
ParsesFileInMemory bytes (Err e) = FileParseError (memory_source_at bytes 0) e

-- A pipe was parsed, as a streaming reader of the same bytes parses it.
abbrev pub ParsesPipeInMemory : List ℕ → Result InMemoryReader Error → Type 0
ParsesPipeInMemory bytes (Ok r) = PipeParsed memory_state (memory_source_at bytes 0) r.perf_file r.records.records × (input_of r.records ≡ bytes)
ParsesPipeInMemory bytes (Err e) = PipeParseError memory_state (memory_source_at bytes 0) e

-- A call returned a record with this view.
abbrev pub ReturnsViewInMemory : InMemoryRecords → PerfFile → RecordView → InMemoryRecords → PerfFile → Type 0
ReturnsViewInMemory old file h new file' =
    (place : RecordPlace) × ((r : PerfFileRecord) × ReturnsRecordInMemory old file place r new file' × (h ≡ record_view_of place r))

-- Consecutive calls returned these records. Each call received the `PerfFile` as the previous one left it.
abbrev pub ReturnsRecordsInMemory : InMemoryRecords → PerfFile → List RecordView → InMemoryRecords → PerfFile → Type 0
ReturnsRecordsInMemory old file [] now file' = (now ≡ old) × (file' ≡ file)
ReturnsRecordsInMemory old file (h ∷ hs) now file' =
    (next : InMemoryRecords) × ((next_file : PerfFile) × ReturnsViewInMemory old file h next next_file × ReturnsRecordsInMemory next next_file hs now file')

-- Zero calls return no records.
abbrev pub NoCallsInMemory : Type 0
NoCallsInMemory = (records : InMemoryRecords) (file : PerfFile) → ReturnsRecordsInMemory records file [] records file

-- One call after others returns one record more.
abbrev pub OneCallMoreInMemory : Type 0
OneCallMoreInMemory = (old now new : InMemoryRecords) (file now_file file' : PerfFile) (records : List RecordView) (place : RecordPlace) (r : PerfFileRecord) →
    ReturnsRecordsInMemory old file records now now_file → ReturnsRecordInMemory now now_file place r new file'
    → ReturnsRecordsInMemory old file (records ++ record_view_of place r ∷ []) new file'

-- A streaming reader of the same bytes returns the same records, and then has the same state but for its buffer.
abbrev pub ReturnsSameRecords : Type 0
ReturnsSameRecords = (old now : InMemoryRecords) (file file' : PerfFile) (records : List RecordView) → ReturnsRecordsInMemory old file records now file'
    → (buffer : Vec ℕ Global) × ReturnsRecords memory_state old.records file records (with_buffer now.records buffer) file'

-- In this state, it returns the same end.
abbrev pub ReturnsSameEnd : Type 0
ReturnsSameEnd = (now new : InMemoryRecords) (file file' : PerfFile) (buffer : Vec ℕ Global) → now.records.stage ≡ Running
    → ReturnsEnd memory_state now.records file new.records file' → ReturnsEnd memory_state (with_buffer now.records buffer) file new.records file'

-- In this state, it returns the same error.
abbrev pub ReturnsSameError : Type 0
ReturnsSameError = (now new : InMemoryRecords) (file file' : PerfFile) (e : Error) (buffer : Vec ℕ Global) → now.records.stage ≡ Running
    → ReturnsError memory_state now.records file e new.records file' → ReturnsError memory_state (with_buffer now.records buffer) file e new.records file'
