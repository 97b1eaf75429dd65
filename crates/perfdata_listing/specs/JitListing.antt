-- What a listing of a jitdump's records writes, and the causes of its errors.
use Rattle.std.specs.Prelude.{◌≡◌, ℕ, ◌+◌, ◌<◌, ◌≤◌, ◌⊎◌, Bool, true, false, List, [], ◌∷◌, ◌++◌, length, take, drop, Option, Some, Result, Ok, Err, IfSome, zero, suc, IsErr}
use Rattle.std.specs.Option.{option_map}
use Rattle.std.specs.List.{concat}
use Rattle.std.specs.IoError.{error_kind}
use Rattle.std.specs.Io.KnownBytes.{Appends, Keeps}
use Rattle.std.specs.declared.io.Error.{Error}
use Rattle.std.specs.declared.io.ErrorKind.TheVariants.{InvalidData, OutOfMemory}
use Rattle.perfdata_sources.specs.Source.{State, prepend, SourceFailed, SourcePaused}
use Rattle.perfdata_sources.specs.declared.endian.Endianness.{Endianness}
use Rattle.perfdata_jit.specs.JitHeader.{IsJitHeader}
use Rattle.perfdata_jit.specs.RecordBytes.{record_header_at, record_size_at, HasInvalidSize, HasWholeRecord, HasNoWholeRecord, AreRecords}
use Rattle.perfdata_jit.specs.JitDumpReader.{jit_buffered, jit_offset, jit_endian, jit_source, ReturnsJitRecord, OpensReader, NextJitRecordError, KeepsPosition, RecordNotReady}
use Rattle.perfdata_jit.specs.declared.jitdump_reader.JitDumpReader.{JitDumpReader}
use Rattle.perfdata_jit.specs.declared.header.JitDumpHeader.{JitDumpHeader}
use Rattle.perfdata_jit.specs.declared.error.JitDumpError.{JitDumpError}
use Rattle.perfdata_jit.specs.declared.record.JitDumpRawRecord.{JitDumpRawRecord}
use Rattle.perfdata_listing_lines.specs.ListingLine.{jit_record_text, raw_record_text}
use Rattle.perfdata_listing_lines.specs.Output.{AppendsPrefix}
use Rattle.perfdata_listing.specs.Listing.{IsWrite}
use Rattle.perfdata_listing.specs.declared.list.ListFault.{ListFault}
use Rattle.perfdata_listing.specs.declared.list.ListCause.{ListCause}
use Rattle.perfdata_listing.specs.declared.list.ListCause.TheVariants.{Jit, Read, Write}

module _ (endian : Endianness) where
  -- the line of the record with these bytes, at an offset in the file
  abbrev pub jit_line : ℕ → List ℕ → List ℕ
  jit_line offset raw =
      jit_record_text offset (record_header_at endian raw).timestamp (record_header_at endian raw).record_type.0 (record_header_at endian raw).total_size

  -- the lines of consecutive records, the first of them at this offset
  abbrev pub jit_lines : ℕ → List (List ℕ) → List ℕ
  jit_lines offset [] = []
  jit_lines offset (raw ∷ raw_records) = jit_line offset raw ++ jit_lines (offset + length raw) raw_records

  -- all remaining bytes are known, and they start with no complete record
  pub record EndsWithoutWholeRecord (offset : ℕ) (remaining : Option (List ℕ)) : Type 0 where
    pub rest : List ℕ
    pub matches : remaining ≡ Some rest
    pub no_whole_record : HasNoWholeRecord endian offset rest

  -- The lines of these records are written, and a proper prefix of the next record's line.
  pub record WroteJitPrefix (offset : ℕ) (before after : Option (List ℕ)) (raw_records : List (List ℕ)) (next : List ℕ) : Type 0 where
    pub count : ℕ
    pub is_partial : count < length (jit_line (offset + length (concat raw_records)) next)
    pub appends : Appends before after (jit_lines offset raw_records ++ take count (jit_line (offset + length (concat raw_records)) next))

-- The buffered bytes start with a header of invalid size. Or they start with no complete record, and the source failed, or
-- the header is buffered and an allocation failed for a body larger than the ring.
abbrev pub JitReadError : State → ℕ → Endianness → ℕ → List ℕ → Error → State → Type 0
JitReadError first size endian offset buffered e source_after =
    (HasInvalidSize endian offset buffered × (error_kind e ≡ InvalidData))
    ⊎ (HasNoWholeRecord endian offset buffered
    × (SourceFailed first source_after ⊎ ((16 ≤ length buffered) × (size + 16 < record_size_at endian buffered) × (error_kind e ≡ OutOfMemory))))

-- If the bytes of the file are known, the file starts with this header, followed by these records and then by the rest.
pub record BeginsWithJitRecords (bytes : Option (List ℕ)) (endian : Endianness) (header : JitDumpHeader) (raw_records : List (List ℕ))
    (rest : Option (List ℕ)) : Type 0 where
  pub has_header : IfSome bytes (λ all. IsJitHeader endian all header)
  pub split : option_map (λ all. drop header.total_size all) bytes ≡ prepend (concat raw_records) rest
  pub elements : AreRecords endian header.total_size raw_records

module _ {R : Type 0} (state : R → State) where
  -- what listing one record does: whether there is a complete one, and its line is written; if the writer fails, a proper
  -- prefix of that line is written
  abbrev pub ListsNextJit : JitDumpReader R → Option (List ℕ) → Result Bool ListCause → Option (List ℕ) → JitDumpReader R → Type 0
  ListsNextJit old before (Ok true) after new = (r : JitDumpRawRecord) × ReturnsJitRecord state old r new × Appends before after (raw_record_text r)
  ListsNextJit old before (Ok false) after new = RecordNotReady state old new × Keeps before after
  ListsNextJit old before (Err (Read e)) after new = NextJitRecordError state old e new × Keeps before after
  ListsNextJit old before (Err (Write e)) after new = (r : JitDumpRawRecord) × ReturnsJitRecord state old r new × AppendsPrefix before after (raw_record_text r)
  ListsNextJit old before (Err cause) after new = ⊥

  -- nothing is read, and the next record is unchanged
  pub record ReadsNothing (old new : JitDumpReader R) : Type 0 where
    pub keeps_position : KeepsPosition state old new
    pub source : jit_source new ≡ jit_source old
    pub buffered : jit_buffered new ≡ jit_buffered old

-- the call for the next record may block only without pending bytes: either the record is buffered, or there are none
abbrev pub MayBlock : {R : Type 0} → JitDumpReader R → List ℕ → Type 0
MayBlock j pending = (pending ≡ []) ⊎ HasWholeRecord (jit_endian j) (jit_offset j) (jit_buffered j)

-- the calls for records of a listing of a reader's records into a writer with pending bytes
module _ {R W : Type 0} (state : R → State) (pending : W → List ℕ) (contents : W → Option (List ℕ)) where
  -- A call for a record, after a flush of the writer or none. If the call may block, no byte is pending.
  pub record CalledFlushed (old : JitDumpReader R) (before : W) (r : Result Bool ListCause) (after : W) (new : JitDumpReader R) : Type 0 where
    pub reader : JitDumpReader R
    pub unread : ReadsNothing state old reader
    pub flushed : W
    pub contents_kept : Keeps (contents before) (contents flushed)
    pub may_block : MayBlock reader (pending flushed)
    pub lists_next : ListsNextJit state reader (contents flushed) r (contents after) new

  -- this many such calls, each of which lists a record
  abbrev pub CallsFlushed : ℕ → JitDumpReader R → W → W → JitDumpReader R → Type 0
  CallsFlushed zero old before after now = (now ≡ old) × (after ≡ before)
  CallsFlushed (suc count) old before after now =
      (last : JitDumpReader R) × (last_out : W) × CallsFlushed count old before last_out last × CalledFlushed last last_out (Ok true) after now

  -- A listing calls for its records one by one. No byte is pending in a call that may block: neither in those that list a
  -- record, nor in the last, which finds no complete record or fails. If a flush fails, there is no last call.
  abbrev pub FlushesBeforeBlocking : JitDumpReader R → W → Result ℕ ListFault → W → JitDumpReader R → Type 0
  FlushesBeforeBlocking old before (Ok lines) after new =
      (last : JitDumpReader R) × (last_out : W) × CallsFlushed lines old before last_out last × CalledFlushed last last_out (Ok false) after new
  FlushesBeforeBlocking old before (Err error) after new = (last : JitDumpReader R) × (last_out : W)
      × CallsFlushed error.lines old before last_out last
      × (CalledFlushed last last_out (Err error.cause) after new ⊎ (IsWrite error.cause × ReadsNothing state last new))

  -- A jitdump is opened with a buffer of this size, and no byte is pending in a call for a record that may block. Or it isn't
  -- opened, and nothing is written.
  abbrev pub FlushesJitBeforeBlocking : R → ℕ → W → Result ℕ ListFault → W → Type 0
  FlushesJitBeforeBlocking source size before r after =
      ((reader : JitDumpReader R) × OpensReader state source size (Ok reader) × (new : JitDumpReader R) × FlushesBeforeBlocking reader before r after new)
      ⊎ (IsErr r × (after ≡ before))

-- A source, and the buffer size of the reader over it.
module _ {R : Type 0} (state : R → State) (source : R) (size : ℕ) where
  -- The first records are listed. All bytes after them start with no complete record, unless the source paused.
  pub record ListedJit (before after : Option (List ℕ)) (lines : ℕ) : Type 0 where
    pub endian : Endianness
    pub header : JitDumpHeader
    pub raw_records : List (List ℕ)
    pub rest : Option (List ℕ)
    pub count : lines ≡ length raw_records
    pub appends : Appends before after (jit_lines endian header.total_size raw_records)
    pub first : BeginsWithJitRecords (state source).bytes endian header raw_records rest
    pub source_after : State
    pub ends : EndsWithoutWholeRecord endian (header.total_size + length (concat raw_records)) rest ⊎ SourcePaused (state source) source_after

  -- the file isn't opened, and no line is written
  pub record JitOpenError (before after : Option (List ℕ)) (lines : ℕ) (e : JitDumpError) : Type 0 where
    pub count : lines ≡ 0
    pub appends : Appends before after []
    pub cause : OpensReader state source size (Err e)

  -- the first records are listed, and the read of the next one fails
  pub record ListedJitUntilError (before after : Option (List ℕ)) (lines : ℕ) (e : Error) : Type 0 where
    pub endian : Endianness
    pub header : JitDumpHeader
    pub raw_records : List (List ℕ)
    pub buffered : List ℕ
    pub source_after : State
    pub count : lines ≡ length raw_records
    pub appends : Appends before after (jit_lines endian header.total_size raw_records)
    pub first : BeginsWithJitRecords (state source).bytes endian header raw_records (prepend buffered source_after.bytes)
    pub cause : JitReadError (state source) size endian (header.total_size + length (concat raw_records)) buffered e source_after

  -- the first records are listed, and a proper prefix of the next record's line is written
  pub record ListedJitPartOfNext (before after : Option (List ℕ)) (lines : ℕ) : Type 0 where
    pub endian : Endianness
    pub header : JitDumpHeader
    pub raw_records : List (List ℕ)
    pub next : List ℕ
    pub rest : Option (List ℕ)
    pub count : lines ≡ length raw_records
    pub wrote : WroteJitPrefix endian header.total_size before after raw_records next
    pub first : BeginsWithJitRecords (state source).bytes endian header (raw_records ++ next ∷ []) rest

  -- the first records are listed, and then the flush of their lines fails
  pub record ListedJitUntilFlushError (before after : Option (List ℕ)) (lines : ℕ) : Type 0 where
    pub endian : Endianness
    pub header : JitDumpHeader
    pub raw_records : List (List ℕ)
    pub rest : Option (List ℕ)
    pub count : lines ≡ length raw_records
    pub appends : Appends before after (jit_lines endian header.total_size raw_records)
    pub first : BeginsWithJitRecords (state source).bytes endian header raw_records rest

  abbrev pub JitListingFails : Option (List ℕ) → Option (List ℕ) → ℕ → ListCause → Type 0
  JitListingFails before after lines (Jit e) = JitOpenError before after lines e
  JitListingFails before after lines (Read e) = ListedJitUntilError before after lines e
  JitListingFails before after lines (Write e) = ListedJitPartOfNext before after lines
  JitListingFails before after lines _ = ⊥

  -- what a listing of a jitdump file does
  abbrev pub ListsJit : Option (List ℕ) → Result ℕ ListFault → Option (List ℕ) → Type 0
  ListsJit before (Ok lines) after = ListedJit before after lines
  ListsJit before (Err error) after = JitListingFails before after error.lines error.cause

  -- what a listing of a live jitdump does: the same, except that the flush of its lines may also fail
  abbrev pub ListsLiveJit : Option (List ℕ) → Result ℕ ListFault → Option (List ℕ) → Type 0
  ListsLiveJit before (Ok lines) after = ListedJit before after lines
  ListsLiveJit before (Err error) after =
      JitListingFails before after error.lines error.cause ⊎ (IsWrite error.cause × ListedJitUntilFlushError before after error.lines)
