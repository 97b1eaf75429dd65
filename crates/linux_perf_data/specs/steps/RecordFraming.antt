-- Steps of private functions: reading the parts of a record from a source, and the causes of its errors.
use Rattle.std.specs.Prelude.{◌≡◌, ◌≢◌, ℕ, ◌+◌, ◌-◌, ◌^◌, ◌<◌, ◌≤◌, ◌⊎◌, Bool, true, false, List, length, drop, Option, None, Some, Result, Ok, Err}
use Rattle.perfdata_sources.specs.Source.{State, Consumed, EndedOrPaused, SourceFailed, PartlyRead, PartlyAppended, SkippedExactly, AppendedExactly}
use Rattle.perfdata_sources.specs.Endian.{number_in}
use Rattle.perfdata_sources.specs.RecordHeader.{RecordHeaderParsed}
use Rattle.perfdata_sources.specs.declared.endian.Endianness.{Endianness}
use Rattle.perfdata_sources.specs.declared.event.record_header.PerfEventHeader.{PerfEventHeader}
use Rattle.perfdata_sections.specs.declared.error.Error.{Error}
use Rattle.perfdata_sections.specs.declared.error.Error.TheVariants.{Read, InvalidPerfEventSize, Memory, Failed}
use Rattle.perfdata_sections.specs.declared.error.ReadError.TheVariants.{PerfEventData}
use Rattle.perfdata_sections.specs.Error.{IsUnexpectedEof, IsUnsupported, IsIoError}
use Rattle.perfdata_sections.specs.RecordTypes.{auxtrace}
use Rattle.linux_perf_data.specs.Attribute.{Attribute}
use Rattle.linux_perf_data.specs.Layout.{SectionSize, LayoutError, ConcernsMetadata, ErrorAt, IsCompressed, IsTruncated}
use Rattle.linux_perf_data.specs.RecordFraming.{IsErrorFor, IsTruncatedAfterHeader, StaysWithinRecord, SourceErrorInRecord, MayNeedMemory, ShownBy}

-- All `count` bytes were read.
pub record BytesRead (old : State) (count : ℕ) (bytes : List ℕ) (new : State) : Type 0 where
  pub exact_len : length bytes ≡ count
  pub consumes : Consumed old bytes new

-- Fewer than `count` bytes were read, and the source ended or paused.
abbrev pub EndedWithin : State → ℕ → State → Type 0
EndedWithin old count new = PartlyRead old count new × EndedOrPaused old new

-- Fewer than `count` bytes were read, and the source failed.
abbrev pub FailedWithin : State → ℕ → State → Type 0
FailedWithin old count new = PartlyRead old count new × SourceFailed old new

-- The bytes of a record header were read; or the source ended or paused before, or failed.
abbrev pub ReadsHeaderBytes : State → Result (Option (List ℕ)) Error → State → Type 0
ReadsHeaderBytes old (Ok (Some bytes)) new = BytesRead old 8 bytes new
ReadsHeaderBytes old (Ok None) new = EndedWithin old 8 new
ReadsHeaderBytes old (Err e) new = IsIoError e × FailedWithin old 8 new

-- The size of a record's body, or the error if the size in the record header is below 8.
abbrev pub ChecksBodySize : ℕ → Result ℕ Error → Type 0
ChecksBodySize size (Ok count) = (8 ≤ size) × (count ≡ size - 8)
ChecksBodySize size (Err e) = (e ≡ InvalidPerfEventSize) × (size < 8)

-- The end offset of a record of this size that starts at `offset`, or the error if the end is 2^64 or more.
abbrev pub ChecksRecordEnd : ℕ → ℕ → Result ℕ Error → Type 0
ChecksRecordEnd offset size (Ok end) = (end ≡ offset + size) × (end < 2 ^ 64)
ChecksRecordEnd offset size (Err e) = (e ≡ Read PerfEventData) × (2 ^ 64 ≤ offset + size)

-- The error of the header of a record at `offset`: the source failed in it, its size is below 8, or the record ends at 2^64 or later.
abbrev pub IsHeaderError : Endianness → ℕ → State → Error → State → Type 0
IsHeaderError order offset old e new =
    (IsIoError e × FailedWithin old 8 new)
    ⊎ ((header : PerfEventHeader) × RecordHeaderParsed (number_in order) old header new
    × (ChecksBodySize header.size (Err e) ⊎ ((8 ≤ header.size) × ChecksRecordEnd offset header.size (Err e))))

-- The header of a record at `offset` was read, and the record ends at this offset; or the source ended or paused before.
abbrev pub ReadsRecordHeader : Endianness → ℕ → State → Result (Option (PerfEventHeader × ℕ)) Error → State → Type 0
ReadsRecordHeader order offset old (Ok (Some start)) new =
    RecordHeaderParsed (number_in order) old start.0 new × (8 ≤ start.0.size) × ChecksRecordEnd offset start.0.size (Ok start.1)
ReadsRecordHeader order offset old (Ok None) new = EndedWithin old 8 new
ReadsRecordHeader order offset old (Err e) new = IsHeaderError order offset old e new

-- The whole body was skipped; or the source ended or paused before its end, or failed.
abbrev pub SkipsBody : State → ℕ → Result Bool Error → State → Type 0
SkipsBody old count (Ok true) new = SkippedExactly old count new
SkipsBody old count (Ok false) new = EndedWithin old count new
SkipsBody old count (Err e) new = (e ≡ Read PerfEventData) × FailedWithin old count new

-- The whole body was appended to a buffer; or only a part, because the source ended or paused, memory ran out, or the source
-- failed.
abbrev pub AppendsBody : State → List ℕ → ℕ → Result Bool Error → List ℕ → State → Type 0
AppendsBody old before count (Ok true) now new = AppendedExactly old before count now new
AppendsBody old before count (Ok false) now new = PartlyAppended old (length before) count (length now) new × EndedOrPaused old new
AppendsBody old before count (Err e) now new =
    PartlyAppended old (length before) count (length now) new × ((e ≡ Memory) ⊎ ((e ≡ Read PerfEventData) × SourceFailed old new))

abbrev pub TestsCompressed : ℕ → Bool → Type 0
TestsCompressed kind true = IsCompressed kind
TestsCompressed kind false = ¬ IsCompressed kind

-- The aux data was read. Its size is the first u64 field of the body.
pub record AuxDataRead (order : Endianness) (old : State) (body : List ℕ) (end record_end : ℕ) (now : List ℕ) (new : State) : Type 0 where
  pub min_size : 40 ≤ length body
  pub end_offset : record_end ≡ end + number_in order 8 body
  pub end_fits : record_end < 2 ^ 64
  pub appended : AppendedExactly old body (number_in order 8 body) now new

-- The body is too short to contain the size, or the aux data ends at 2^64 or later; in both cases nothing was read. Otherwise the
-- aux data wasn't read in full.
abbrev pub AuxDataError : Endianness → State → List ℕ → ℕ → Error → List ℕ → State → Type 0
AuxDataError order old body end e now new =
    (IsUnexpectedEof e × (length body < 40) × (now ≡ body) × (new ≡ old))
    ⊎ (((e ≡ Read PerfEventData) × (40 ≤ length body) × (2 ^ 64 ≤ end + number_in order 8 body) × (now ≡ body) × (new ≡ old))
    ⊎ ((40 ≤ length body) × (end + number_in order 8 body < 2 ^ 64) × PartlyAppended old (length body) (number_in order 8 body) (length now) new
    × ((e ≡ Memory) ⊎ ((e ≡ Read PerfEventData) × (EndedOrPaused old new ⊎ SourceFailed old new)))))

abbrev pub ReadsAuxData : Endianness → State → List ℕ → ℕ → Result ℕ Error → List ℕ → State → Type 0
ReadsAuxData order old body end (Ok record_end) now new = AuxDataRead order old body end record_end now new
ReadsAuxData order old body end (Err e) now new = AuxDataError order old body end e now new

-- The body and the aux data after a record header were read, and the record ends at `record_end`.
pub record BodyRead (order : Endianness) (old : State) (header : PerfEventHeader) (end record_end : ℕ) (now : List ℕ) (new : State) : Type 0 where
  pub consumes : Consumed old now new
  pub not_compressed : ¬ IsCompressed header.type_
  pub if_not_auxtrace : header.type_ ≢ auxtrace → (length now ≡ header.size - 8) × (record_end ≡ end)
  pub if_auxtrace : header.type_ ≡ auxtrace
      → (48 ≤ header.size) × (length now ≡ header.size - 8 + number_in order 8 now) × (record_end ≡ end + number_in order 8 now)
  pub end_fits : end < 2 ^ 64 → record_end < 2 ^ 64

-- A part of the body was read. `Why` holds for the consumed bytes, and bounds apply to the buffer.
pub record BodyPartlyRead (old : State) (e : Error) (now : List ℕ) (new : State) (Cause : List ℕ → Type 0) : Type 0 where
  pub consumed_bytes : List ℕ
  pub consumes : Consumed old consumed_bytes new
  pub buffer_bound : length now ≤ length consumed_bytes + 4096
  pub cause : Cause consumed_bytes

-- The body is truncated: in what the size in the header counts, or after it in the aux data.
abbrev pub IsTruncatedBody : Endianness → PerfEventHeader → List ℕ → Type 0
IsTruncatedBody order header consumed =
    (length consumed < header.size - 8)
    ⊎ ((header.type_ ≡ auxtrace) × (48 ≤ header.size) × (header.size - 8 ≤ length consumed) × (length consumed < header.size - 8 + number_in order 8 consumed))

-- The cause of an error in a body. Either the source failed in the body, the record is compressed, the body is too short for aux
-- data, the aux data ends at 2^64 or later, or the source ended, paused or failed in the aux data; or memory ran out for a
-- nonempty body.
abbrev pub BodyErrorCause : Endianness → State → PerfEventHeader → ℕ → Error → State → List ℕ → Type 0
BodyErrorCause order old header end e new consumed =
    ((e ≡ Memory) × (8 < header.size) × IsTruncatedBody order header consumed)
    ⊎ (((e ≡ Read PerfEventData) × (length consumed < header.size - 8) × SourceFailed old new)
    ⊎ ((IsUnsupported e × (length consumed ≡ header.size - 8) × IsCompressed header.type_)
    ⊎ ((IsUnexpectedEof e × (length consumed ≡ header.size - 8) × (header.type_ ≡ auxtrace) × (header.size < 48))
    ⊎ (((e ≡ Read PerfEventData) × (length consumed ≡ header.size - 8) × (header.type_ ≡ auxtrace) × (48 ≤ header.size)
    × (2 ^ 64 ≤ end + number_in order 8 consumed))
    ⊎ ((e ≡ Read PerfEventData) × (header.size - 8 ≤ length consumed) × (header.type_ ≡ auxtrace) × (48 ≤ header.size)
    × (end + number_in order 8 consumed < 2 ^ 64)
    × (length consumed < header.size - 8 + number_in order 8 consumed) × (EndedOrPaused old new ⊎ SourceFailed old new))))))

-- The source ended or paused before the end of what the record header counts.
pub record BodyEnded (old : State) (header : PerfEventHeader) (now : List ℕ) (new : State) : Type 0 where
  pub consumed_bytes : List ℕ
  pub too_few : length consumed_bytes < header.size - 8
  pub consumes : Consumed old consumed_bytes new
  pub ended_or_paused : EndedOrPaused old new
  pub buffer_bound : length now ≤ length consumed_bytes + 4096

abbrev pub ReadsRecordBody : Endianness → State → PerfEventHeader → ℕ → Result (Option ℕ) Error → List ℕ → State → Type 0
ReadsRecordBody order old header end (Ok (Some record_end)) now new = BodyRead order old header end record_end now new
ReadsRecordBody order old header end (Ok None) now new = BodyEnded old header now new
ReadsRecordBody order old header end (Err e) now new = BodyPartlyRead old e now new (BodyErrorCause order old header end e new)

-- The same of a body after its header, with the bytes of it that were read.
pub record BodyExceedsCapacity (order : Endianness) (capacity : ℕ) (old : State) (header : PerfEventHeader) (new : State) : Type 0 where
  pub consumed_bytes : List ℕ
  pub consumes : Consumed old consumed_bytes new
  pub exceeds : (capacity < header.size - 8)
      ⊎ ((header.type_ ≡ auxtrace) × (48 ≤ header.size) × (header.size - 8 ≤ length consumed_bytes)
      × (capacity < header.size - 8 + number_in order 8 consumed_bytes))

-- Reading the record at `offset` failed after `consumed_bytes`. They show the error, or it is the source's. The buffer is at most 4,096 bytes longer than the
-- part of the
-- body that was read.
pub record RecordErrorAt (order : Endianness) (old : State) (bound : SectionSize) (offset : ℕ) (e : Error) (buffer_len : ℕ) (new : State) : Type 0 where
  pub consumed_bytes : List ℕ
  pub consumes : Consumed old consumed_bytes new
  pub buffer_bound : buffer_len ≤ length (drop 8 consumed_bytes) + 4096
  pub within_record : StaysWithinRecord order consumed_bytes
  pub not_failed : e ≢ Failed
  pub if_out_of_memory : e ≡ Memory → MayNeedMemory order consumed_bytes × IsTruncatedAfterHeader order consumed_bytes
  pub cause : e ≢ Memory
      → ShownBy (λ bytes. (f : LayoutError) × ((attrs : List Attribute) → ErrorAt order bound offset attrs bytes f) × (¬ ConcernsMetadata f)
      × IsErrorFor f e) consumed_bytes new ⊎ SourceErrorInRecord order bound old consumed_bytes e new

-- The record at `offset` is truncated in a pipe. The source ended or paused after `consumed_bytes`. The buffer is at most 4,096
-- bytes longer than the part of the body that was read.
pub record RecordTruncatedAt (order : Endianness) (old : State) (offset buffer_len : ℕ) (new : State) : Type 0 where
  pub consumed_bytes : List ℕ
  pub consumes : Consumed old consumed_bytes new
  pub buffer_bound : buffer_len ≤ length (drop 8 consumed_bytes) + 4096
  pub is_truncated : IsTruncated order offset consumed_bytes
  pub ended_or_paused : EndedOrPaused old new
