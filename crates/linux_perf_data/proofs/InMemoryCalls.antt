-- Taking a record from memory does what a streaming iterator over the same bytes does.
use Rattle.std.proofs.Common.{◌≡◌, ◌≢◌, ℕ, ◌^◌, ◌<◌, List, [], length, refl, sym, ap, ◌∙◌, subst, arith, None}
use Rattle.std.specs.Prelude.{Result, Ok, Err, Vec, Option}
use Rattle.std.specs.declared.alloc.Global.{Global}
use Rattle.perfdata_sources.specs.Source.{State}
use Rattle.std.specs.Borrow.{Bor}
use Rattle.perfdata_sources.specs.declared.endian.Endianness.{Endianness}
use Rattle.perfdata_sources.specs.declared.event.record_header.PerfEventHeader.{PerfEventHeader}
use Rattle.perfdata_sections.specs.declared.error.Error.{Error}
use Rattle.perfdata_sections.specs.declared.error.Error.TheVariants.{Memory}
use Rattle.perfdata_sections.specs.Error.{IsUnexpectedEof}
use Rattle.linux_perf_data.specs.declared.in_memory.raw_record.RawRecord.{RawRecord}
use Rattle.linux_perf_data.specs.declared.in_memory.raw_record.RawRecord.TheVariants.{Marker, Record, End}
use Rattle.linux_perf_data.specs.declared.perf_file.PerfFile.{PerfFile}
use Rattle.linux_perf_data.specs.declared.attributes.lookup.AttributeLookup.{AttributeLookup}
use Rattle.linux_perf_data.specs.declared.records.iter.IdentifiedRecord.{IdentifiedRecord}
use Rattle.linux_perf_data.specs.steps.AttributeLookup.{KeepsAttributes}
use Rattle.linux_perf_data.specs.RecordInput.{HasNoPendingHeader}
use Rattle.linux_perf_data.specs.Layout.{MayStartAt}
use Rattle.linux_perf_data.specs.LateMetadata.{IsMetadataType, MetadataApplied, MetadataRejected}
use Rattle.linux_perf_data.specs.steps.RecordFraming.{RecordTruncatedAt, RecordErrorAt}
use Rattle.linux_perf_data.specs.steps.RecordViews.{IdentifiesRecord}
use Rattle.linux_perf_data.specs.Iter.{iter_source_state, section_size_of, SameInput, StopsAtError, ConsumesMetadata}
use Rattle.linux_perf_data.specs.steps.IterSteps.{RawRecordRead, SameButLookup, RecordProcessed, RecordRejected}
use Rattle.linux_perf_data.specs.InMemory.{memory_state, MemoryIter, with_buffer}
use Rattle.linux_perf_data.specs.steps.InMemory.{EndsOrFails, TakesRawRecord, TakesRecordBody}
use Rattle.linux_perf_data.proofs.IterCalls.{Idles, late_stops, consumes_metadata}
use Rattle.linux_perf_data.proofs.ProcessedRecords.{record_processed, record_rejected}
use Rattle.linux_perf_data.proofs.TruncatedRecords.{record_truncated}

-- a buffer with these bytes
abbrev pub buffer_of : Vec ℕ Global → (bytes : List ℕ) → length bytes < 2 ^ 63 → Vec ℕ Global
buffer_of v bytes small = record v { len = length bytes; cap = length bytes; items = bytes; ok = (refl, omega arith); small = small }

-- these errors aren't out of memory
pub unexpected_not_memory : (e : Error) → IsUnexpectedEof e → e ≢ Memory
unexpected_not_memory e short is = subst IsUnexpectedEof is short

-- a truncated record is the end of a pipe, or an error
pub truncated_consumed : (old new : MemoryIter) (e : Error) (r : Result RawRecord Error) → EndsOrFails new.input e r → e ≢ Memory → SameInput memory_state old new → new.offset ≡ old.offset → new.round ≡ old.round → new.attribute_lookup ≡ old.attribute_lookup → HasNoPendingHeader new.input
    → (section_size_of memory_state old ≡ None → RecordTruncatedAt old.endian (iter_source_state memory_state old) old.offset (length new.body.items) (iter_source_state memory_state new))
    → (section_size_of memory_state old ≢ None → RecordErrorAt old.endian (iter_source_state memory_state old) (section_size_of memory_state old) old.offset e (length new.body.items) (iter_source_state memory_state new)) → TakesRawRecord old r new
truncated_consumed old new e (Ok (Marker header)) answers other same offset round known unread pipe file = absurd answers
truncated_consumed old new e (Ok (Record header body)) answers other same offset round known unread pipe file = absurd answers
truncated_consumed old new e (Ok End) answers other same offset round known unread pipe file = record_truncated memory_state old new e (Ok None) answers same offset round known unread pipe file
truncated_consumed old new e (Err e') answers other same offset round known unread pipe file = (λ m. other (sym answers.1 ∙ m), record_truncated memory_state old new e (Err e') answers same offset round known unread pipe file)

-- A record whose body is in a buffer is processed. `new` is `old` with another lookup.
pub body_processed : (old new : MemoryIter) (buffer : Vec ℕ Global) → new.body ≡ old.body → (file file' : PerfFile) (offset round : ℕ) (header_bytes : PerfEventHeader) (found : IdentifiedRecord) (known : AttributeLookup) (body : List ℕ) → buffer.items ≡ body → section_size_of memory_state old ≡ None
    → IdentifiesRecord old.attribute_lookup offset round header_bytes body found known → KeepsAttributes old.attribute_lookup known → MetadataApplied old.endian known file header_bytes.type_ body new.attribute_lookup file' → ((¬ IsMetadataType header_bytes.type_) → (new.attribute_lookup ≡ known) × (file' ≡ file))
    → SameButLookup memory_state (with_buffer old buffer) (with_buffer new buffer) → new.stage ≡ old.stage → RecordProcessed memory_state (with_buffer old buffer) file offset round header_bytes found (with_buffer new buffer) file'
body_processed old new buffer same file file' offset round header_bytes found known body buffered pipe finds learns step others after running =
    record_processed memory_state (with_buffer old buffer) (with_buffer new buffer) file file' offset round header_bytes found known body (sym buffered) pipe finds learns step others after running

-- the same for a record that is rejected
pub body_rejected : (old new : MemoryIter) (buffer : Vec ℕ Global) → new.body ≡ old.body → (file file' : PerfFile) (header_bytes : PerfEventHeader) (e : Error) (known : AttributeLookup) (body : List ℕ) → buffer.items ≡ body → section_size_of memory_state old ≡ None
    → KeepsAttributes old.attribute_lookup known → MetadataRejected old.endian known file header_bytes.type_ body e file' → SameButLookup memory_state (with_buffer old buffer) (with_buffer new buffer) → RecordRejected memory_state (with_buffer old buffer) file header_bytes e (with_buffer new buffer) file'
body_rejected old new buffer same file file' header_bytes e known body buffered pipe learns declined after =
    record_rejected memory_state (with_buffer old buffer) (with_buffer new buffer) file file' header_bytes e known body (sym buffered) pipe learns declined after

-- after an error, an iterator with an empty buffer has stopped as one with the body in its buffer
pub stops_unbuffered : (old new : MemoryIter) (file : PerfFile) (e : Error) (buffer : Vec ℕ Global) → new.body.items ≡ [] → StopsAtError memory_state old file e (with_buffer new buffer) → StopsAtError memory_state old file e new
stops_unbuffered old new file e buffer empty stopped =
    let none = ap length empty in
    record {
      markers = stopped.markers;
      valid_markers = stopped.valid_markers;
      consumed_bytes = stopped.consumed_bytes;
      offset = stopped.offset;
      round = stopped.round;
      may_start = stopped.may_start;
      consumes = stopped.consumes;
      no_pending_header = stopped.no_pending_header;
      within_record = stopped.within_record;
      buffer_bound = omega (arith, none);
      if_out_of_memory = stopped.if_out_of_memory;
      cause = stopped.cause;
    }

-- the metadata of a complete record isn't applied
pub rejected_stops : (old now piece new final : MemoryIter) (buffer : Vec ℕ Global) (file file' : PerfFile) (header_bytes : PerfEventHeader) (e : Error) → Idles memory_state old now → RawRecordRead memory_state now header_bytes (with_buffer piece buffer) → header_bytes.type_ ≢ 68 → MayStartAt (section_size_of memory_state now) now.offset
    → RecordRejected memory_state (with_buffer piece buffer) file header_bytes e (with_buffer new buffer) file' → final.source ≡ new.source → final.input ≡ new.input → final.offset ≡ now.offset → final.round ≡ new.round → final.body.items ≡ [] → StopsAtError memory_state old file e final
rejected_stops old now piece new final buffer file file' header_bytes e idles read other more rejected source input offset round empty =
    stops_unbuffered old final file e buffer empty
    (late_stops memory_state old now (with_buffer piece buffer) (with_buffer new buffer) (with_buffer final buffer) file file' header_bytes e idles read other more rejected (record { source = source; input = input; body = refl; round = round }) offset)

-- its bytes were consumed
pub rejected_consumes : (old now piece new final : MemoryIter) (buffer : Vec ℕ Global) (file file' : PerfFile) (header_bytes : PerfEventHeader) (e : Error) → Idles memory_state old now → RawRecordRead memory_state now header_bytes (with_buffer piece buffer)
    → RecordRejected memory_state (with_buffer piece buffer) file header_bytes e (with_buffer new buffer) file' → final.source ≡ new.source → final.input ≡ new.input → final.round ≡ new.round → ConsumesMetadata memory_state old final
rejected_consumes old now piece new final buffer file file' header_bytes e idles read rejected source input round =
    let c = consumes_metadata memory_state old now (with_buffer piece buffer) (with_buffer new buffer) (with_buffer final buffer) file file' header_bytes e idles read rejected (record { source = source; input = input; body = refl; round = round }) in
    record { in_pipe = c.in_pipe; markers = c.markers; valid_markers = c.valid_markers; raw_record = c.raw_record; is_record = c.is_record; metadata_type = c.metadata_type; consumes = c.consumes }

-- the same body, and the same raw record, by their names
pub body_taken : (order : Endianness) (a b : State) (header : PerfEventHeader) (end : ℕ) (r taken : Option (Bor (List ℕ) × ℕ)) → r ≡ taken → TakesRecordBody order a header end (Ok r) b → TakesRecordBody order a header end (Ok taken) b
body_taken order a b header end r taken is takes = subst (λ o. TakesRecordBody order a header end (Ok o) b) is takes

pub raw_record_taken : (old new : MemoryIter) (r taken : RawRecord) → r ≡ taken → TakesRawRecord old (Ok r) new → TakesRawRecord old (Ok taken) new
raw_record_taken old new r taken is takes = subst (λ x. TakesRawRecord old (Ok x) new) is takes
