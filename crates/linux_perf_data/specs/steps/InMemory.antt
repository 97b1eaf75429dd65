-- Steps of private functions: taking records from bytes in memory. A call does what a `PerfRecordIter` over a cursor does, but it returns the body as a slice
-- of
-- the bytes in place of a copy in the buffer.
use Rattle.std.specs.Prelude.{◌≡◌, ◌≢◌, ℕ, ◌^◌, ◌<◌, List, [], length, Vec, Option, None, Some, Result, Ok, Err}
use Rattle.std.specs.Borrow.{Bor}
use Rattle.std.specs.declared.alloc.Global.{Global}
use Rattle.perfdata_sources.specs.Source.{State}
use Rattle.perfdata_sources.specs.declared.endian.Endianness.{Endianness}
use Rattle.perfdata_sources.specs.declared.event.record_header.PerfEventHeader.{PerfEventHeader}
use Rattle.perfdata_sections.specs.declared.error.Error.{Error}
use Rattle.perfdata_sections.specs.declared.error.Error.TheVariants.{Memory}
use Rattle.perfdata_sections.specs.RecordTypes.{finished_round}
use Rattle.linux_perf_data.specs.declared.records.input.RecordInput.{RecordInput}
use Rattle.linux_perf_data.specs.declared.records.iter.IdentifiedRecord.{IdentifiedRecord}
use Rattle.linux_perf_data.specs.declared.in_memory.raw_record.RawRecord.{RawRecord}
use Rattle.linux_perf_data.specs.declared.in_memory.raw_record.RawRecord.TheVariants.{Marker, Record, End}
use Rattle.linux_perf_data.specs.declared.perf_file.PerfFile.{PerfFile}
use Rattle.linux_perf_data.specs.RecordInput.{section_size_in}
use Rattle.linux_perf_data.specs.steps.RecordFraming.{AuxDataRead, AuxDataError, ReadsRecordBody}
use Rattle.linux_perf_data.specs.RecordViews.{record_view_with}
use Rattle.linux_perf_data.specs.Iter.{ReturnsRecord, ReturnsEnd, ReturnsError, ConsumesMetadata}
use Rattle.linux_perf_data.specs.steps.IterSteps.{RawRecordRead, RawRecordTruncated, RawRecordError, ProcessesRecord}
use Rattle.linux_perf_data.specs.InMemory.{memory_state, MemoryIter, with_buffer}

-- The aux data after `body` were consumed, and the result is the size of the body with them, and the end offset of the record.
abbrev pub SkipsAuxData : Endianness → State → List ℕ → ℕ → Result (ℕ × ℕ) Error → State → Type 0
SkipsAuxData order old body end (Ok r) new = (now : List ℕ) × (r.0 ≡ length now) × AuxDataRead order old body end r.1 now new
SkipsAuxData order old body end (Err e) new = (e ≢ Memory) × AuxDataError order old body end e body new

-- The effect of `ReadsRecordBody`, with the body in a slice in place of a buffer, and no error for memory.
abbrev pub TakesRecordBody : Endianness → State → PerfEventHeader → ℕ → Result (Option (Bor (List ℕ) × ℕ)) Error → State → Type 0
TakesRecordBody order old header end (Ok (Some r)) new = (length r.0.now < 2 ^ 63) × ReadsRecordBody order old header end (Ok (Some r.1)) r.0.now new
TakesRecordBody order old header end (Ok None) new = ReadsRecordBody order old header end (Ok None) [] new
TakesRecordBody order old header end (Err e) new = (e ≢ Memory) × ReadsRecordBody order old header end (Err e) [] new

-- A truncated record ends a pipe, and is an error in a file.
abbrev pub EndsOrFails : RecordInput → Error → Result RawRecord Error → Type 0
EndsOrFails input e (Ok (Marker header)) = ⊥
EndsOrFails input e (Ok (Record header body)) = ⊥
EndsOrFails input e (Ok End) = section_size_in input ≡ None
EndsOrFails input e (Err e') = (section_size_in input ≢ None) × (e' ≡ e)

-- A streaming iterator over the same bytes reads the same record into a buffer.
pub record RawRecordTaken (old : MemoryIter) (header : PerfEventHeader) (body : List ℕ) (new : MemoryIter) : Type 0 where
  pub not_marker : header.type_ ≢ finished_round
  pub buffer : Vec ℕ Global
  pub buffered_body : buffer.items ≡ body
  pub raw_record_read : RawRecordRead memory_state old header (with_buffer new buffer)

abbrev pub TakesRawRecord : MemoryIter → Result RawRecord Error → MemoryIter → Type 0
TakesRawRecord old (Ok (Marker header)) new = (header.type_ ≡ finished_round) × RawRecordRead memory_state old header new
TakesRawRecord old (Ok (Record header body)) new = RawRecordTaken old header body.now new
TakesRawRecord old (Ok End) new = RawRecordTruncated memory_state old new
TakesRawRecord old (Err e) new = (e ≢ Memory) × RawRecordError memory_state old e new

-- The effect of `ProcessesRecord` on an iterator that has buffered the body. Memory runs out in a pipe only.
abbrev pub ProcessesBody : MemoryIter → PerfFile → ℕ → ℕ → PerfEventHeader → List ℕ → Result IdentifiedRecord Error → MemoryIter → PerfFile → Type 0
ProcessesBody old file offset round header body r new file' =
    (buffer : Vec ℕ Global) → buffer.items ≡ body
    → ProcessesRecord memory_state (with_buffer old buffer) file offset round header r (with_buffer new buffer) file'

-- A streaming iterator over the same bytes returns the same record, and its buffer then contains the body.
pub record RecordTaken (old : MemoryIter) (file : PerfFile) (found : IdentifiedRecord) (body : List ℕ) (new : MemoryIter) (file' : PerfFile) : Type 0 where
  pub buffer : Vec ℕ Global
  pub returns : ReturnsRecord memory_state old file (record_view_with new.attribute_lookup found new.endian body) (with_buffer new buffer) file'

-- The next record is taken, and no `PerfFile` is changed; or nothing is taken.
abbrev pub TakesFileRecord : MemoryIter → Option (IdentifiedRecord × Bor (List ℕ)) → MemoryIter → Type 0
TakesFileRecord old None new = new ≡ old
TakesFileRecord old (Some r) new = (file : PerfFile) → RecordTaken old file r.0 r.1.now new file

abbrev pub TakesRecord : MemoryIter → PerfFile → Result (Option (IdentifiedRecord × Bor (List ℕ))) Error → MemoryIter → PerfFile → Type 0
TakesRecord old file (Ok (Some r)) new file' = RecordTaken old file r.0 r.1.now new file'
TakesRecord old file (Ok None) new file' = ReturnsEnd memory_state old file new file'
TakesRecord old file (Err e) new file' = ReturnsError memory_state old file e new file' × (e ≡ Memory → ConsumesMetadata memory_state old new)
