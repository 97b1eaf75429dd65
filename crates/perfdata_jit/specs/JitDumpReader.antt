-- The state of a `JitDumpReader`, and what its calls do.
use Rattle.std.specs.Prelude.{◌≡◌, ℕ, ◌+◌, ◌-◌, ◌<◌, ◌≤◌, ◌⊎◌, Bool, true, false, IsTrue, IfSome, List, [], ◌++◌, length, take, drop, Option, None, Some, Result, Ok, Err}
use Rattle.std.specs.IoError.{error_kind}
use Rattle.std.specs.declared.io.Error.{Error}
use Rattle.std.specs.declared.io.ErrorKind.TheVariants.{InvalidData, OutOfMemory}
use Rattle.perfdata_sources.specs.Source.{State, prepend, Consumed, EndedOrPaused, SourceFailed}
use Rattle.perfdata_sources.specs.Raw.{IsSingle}
use Rattle.perfdata_sources.specs.declared.endian.Endianness.{Endianness}
use Rattle.perfdata_jit.specs.RecordBytes.{record_header_at, record_size_at, HasInvalidSize, IsTruncatedRecord, HasNoWholeRecord, HasWholeRecord, IsOneRecord, IsRecordOf}
use Rattle.perfdata_jit.specs.BufferedReader.{SameCounts, SameSource, FailsAfterSeekError, IsOverflowAllocError, buffered_in, unread_bytes, overflow_len_of, ring_capacity_of, source_of, has_seek_failed}
use Rattle.perfdata_jit.specs.ReadBuffer.{IsContiguous}
use Rattle.perfdata_jit.specs.JitHeader.{IsJitHeader, IsJitHeaderError}
use Rattle.perfdata_jit.specs.declared.error.JitDumpError.{JitDumpError}
use Rattle.perfdata_jit.specs.declared.error.JitDumpError.TheVariants.{Io}
use Rattle.perfdata_jit.specs.declared.header.JitDumpHeader.{JitDumpHeader}
use Rattle.perfdata_jit.specs.declared.record.JitDumpRecordHeader.{JitDumpRecordHeader}
use Rattle.perfdata_jit.specs.declared.record.JitDumpRawRecord.{JitDumpRawRecord}
use Rattle.perfdata_jit.specs.declared.read_buffer.ReadBuffer.{ReadBuffer}
use Rattle.perfdata_jit.specs.declared.jitdump_reader.JitDumpReader.{JitDumpReader}

-- the bytes of the pending header, if there is one
abbrev pub pending_header_bytes : Option (List ℕ) → List ℕ
pending_header_bytes None = []
pending_header_bytes (Some header) = header

-- the file header
abbrev pub jit_header : {R : Type 0} → JitDumpReader R → JitDumpHeader
jit_header j = j.header

-- the byte order of the file
abbrev pub jit_endian : {R : Type 0} → JitDumpReader R → Endianness
jit_endian j = j.endian

-- the offset of the next record in the file
abbrev pub jit_offset : {R : Type 0} → JitDumpReader R → ℕ
jit_offset j = j.offset

-- the source
abbrev pub jit_source : {R : Type 0} → JitDumpReader R → R
jit_source j = source_of j.reader

-- the bytes that are read but not consumed: the pending header and the bytes after it
abbrev pub jit_buffered : {R : Type 0} → JitDumpReader R → List ℕ
jit_buffered j = pending_header_bytes j.pending_header ++ buffered_in j.reader

-- the body of a record of n bytes is in one piece, after the pending header or after the first sixteen buffered bytes
abbrev pub contiguous_after_header : Option (List ℕ) → ℕ → ReadBuffer → Type 0
contiguous_after_header None n h = IsContiguous n h
contiguous_after_header (Some _) n h = IsContiguous (n - 16) h

-- the body of the next record, if that has n bytes, is buffered in one piece
abbrev pub IsBodyContiguous : {R : Type 0} → ℕ → JitDumpReader R → Type 0
IsBodyContiguous n j = contiguous_after_header j.pending_header n j.reader.buffer

-- the length of the overflow buffer
abbrev pub jit_overflow : {R : Type 0} → JitDumpReader R → ℕ
jit_overflow j = overflow_len_of j.reader

-- the capacity of the ring
abbrev pub jit_ring_capacity : {R : Type 0} → JitDumpReader R → ℕ
jit_ring_capacity j = ring_capacity_of j.reader

-- whether a seek has failed
abbrev pub jit_seek_failed : {R : Type 0} → JitDumpReader R → Bool
jit_seek_failed j = has_seek_failed j.reader

-- If fewer than `end` bytes were buffered, the source was read, and the overflow buffer is shorter than the part. Otherwise
-- the overflow buffer doesn't grow. It doesn't grow either if the part fits in the ring.
pub record ReadsFor (size part end buffered before after : ℕ) : Type 0 where
  pub overflow_bound : buffered < end → after < part
  pub no_growth_if_buffered : end ≤ buffered → after ≤ before
  pub no_growth_if_fits : part ≤ size → after ≤ before

-- If the record header wasn't buffered, the source was read for it, and the overflow buffer was empty afterwards. If the
-- body wasn't buffered then, the source was read for it. If the record header was buffered, no byte was read before the
-- body.
pub record ReadsForHeaderAndBody (size body buffered all before after : ℕ) : Type 0 where
  pub buffered_after_header : ℕ
  pub buffer_unchanged : 16 ≤ buffered → buffered_after_header ≡ buffered
  pub not_fewer : buffered ≤ buffered_after_header
  pub at_most_all : buffered_after_header ≤ all
  pub overflow_between : ℕ
  pub header_read : ReadsFor size 16 16 buffered before overflow_between
  pub overflow_empty : buffered < 16 → overflow_between ≡ 0
  pub body_read : ReadsFor size body (16 + body) buffered_after_header overflow_between after

-- the size of the next part to read: the record header if it isn't buffered, otherwise the body
abbrev pub IsNextPart : Endianness → List ℕ → ℕ → Type 0
IsNextPart endian buffered part = ((part ≡ 16) × (length buffered < 16)) ⊎ ((part + 16 ≡ record_size_at endian buffered) × (16 ≤ length buffered))

-- the file header, the byte order and the ring's capacity are unchanged
pub record SameSetup {R : Type 0} (old new : JitDumpReader R) : Type 0 where
  pub header : jit_header new ≡ jit_header old
  pub same_endian : jit_endian new ≡ jit_endian old
  pub ring_capacity : jit_ring_capacity new ≡ jit_ring_capacity old

-- the source was read only for a record header that wasn't buffered; otherwise the source and the buffered bytes are
-- unchanged
pub record ReadsForHeader {R : Type 0} (old new : JitDumpReader R) : Type 0 where
  pub reads_for : ReadsFor (jit_ring_capacity old) 16 16 (length (jit_buffered old)) (jit_overflow old) (jit_overflow new)
  pub source_unchanged : 16 ≤ length (jit_buffered old) → jit_source new ≡ jit_source old
  pub buffer_unchanged : 16 ≤ length (jit_buffered old) → jit_buffered new ≡ jit_buffered old

-- The source was read for the record header if that wasn't buffered. If the header is buffered now, it was then read for
-- the record's body if that wasn't buffered.
pub record ReadsForRecord {R : Type 0} (size : ℕ) (old new : JitDumpReader R) : Type 0 where
  pub header_read : length (jit_buffered new) < 16 → ReadsFor (jit_ring_capacity old) 16 16 (length (jit_buffered old)) (jit_overflow old) (jit_overflow new)
  pub header_and_body_read : 16 ≤ length (jit_buffered new)
      → ReadsForHeaderAndBody (jit_ring_capacity old) (size - 16) (length (jit_buffered old)) (length (jit_buffered new)) (jit_overflow old) (jit_overflow new)

-- a buffered record is skipped without use of the source, if no seek has failed
pub record SkipsBuffered {R : Type 0} (old : JitDumpReader R) (r : Result Bool Error) (new : JitDumpReader R) : Type 0 where
  pub returns_true : r ≡ Ok true
  pub source_unchanged : jit_source new ≡ jit_source old

module _ {R : Type 0} (state : R → State) where
  -- the source's state in contracts
  abbrev pub jit_source_state : JitDumpReader R → State
  jit_source_state j = state (jit_source j)

  -- the unread bytes: those buffered, followed by the remaining bytes of the source
  abbrev pub jit_unread_bytes : JitDumpReader R → Option (List ℕ)
  jit_unread_bytes j = prepend (pending_header_bytes j.pending_header) (unread_bytes state j.reader)

  -- Bytes may have been read into the buffers. No byte is lost, and the offset of the next record is unchanged.
  pub record KeepsPosition (old new : JitDumpReader R) : Type 0 where
    pub unread_bytes : jit_unread_bytes old ≡ jit_unread_bytes new
    pub offset : jit_offset new ≡ jit_offset old
    pub consumed_bytes : List ℕ
    pub consumes : Consumed (jit_source_state old) consumed_bytes (jit_source_state new)
    pub buffer_content : jit_buffered new ≡ jit_buffered old ++ consumed_bytes
    pub same_setup : SameSetup old new
    pub seek_ok_before : jit_seek_failed old ≡ false
    pub seek_ok_after : jit_seek_failed new ≡ false

  -- the header of the next record is returned, and the record remains the next one; if the header wasn't buffered before,
  -- the overflow buffer is empty
  pub record HeaderReturned {A : Type 0} (pick : JitDumpRecordHeader → A) (old : JitDumpReader R) (value : A) (new : JitDumpReader R) : Type 0 where
    pub keeps_position : KeepsPosition old new
    pub reads_only_needed : ReadsForHeader old new
    pub overflow_empty : length (jit_buffered old) < 16 → jit_overflow new ≡ 0
    pub complete : 16 ≤ length (jit_buffered new)
    pub matches : value ≡ pick (record_header_at (jit_endian old) (jit_buffered new))
    pub same_counts : SameCounts (jit_source_state old) (jit_source_state new)

  -- the next record header isn't available: one read was empty, and no read failed
  pub record HeaderNotReady (old new : JitDumpReader R) : Type 0 where
    pub keeps_position : KeepsPosition old new
    pub reads_only_needed : ReadsForHeader old new
    pub too_few : length (jit_buffered new) < 16
    pub ended_or_paused : EndedOrPaused (jit_source_state old) (jit_source_state new)
    pub at_most_one_pause : (jit_source_state new).pauses ≤ (jit_source_state old).pauses + 1
    pub errors : (jit_source_state new).errors ≡ (jit_source_state old).errors

  -- the next record header isn't available: the source failed, or an allocation failed for a header larger than the ring;
  -- no read was empty
  pub record HeaderReadError (old : JitDumpReader R) (e : Error) (new : JitDumpReader R) : Type 0 where
    pub keeps_position : KeepsPosition old new
    pub reads_only_needed : ReadsForHeader old new
    pub too_few : length (jit_buffered new) < 16
    pub cause : SourceFailed (jit_source_state old) (jit_source_state new)
        ⊎ (IsOverflowAllocError (jit_ring_capacity old) 16 e × SameCounts (jit_source_state old) (jit_source_state new))
    pub pauses : (jit_source_state new).pauses ≡ (jit_source_state old).pauses

  -- what a call for the next record header does
  abbrev pub ReturnsHeader : {A : Type 0} → (JitDumpRecordHeader → A) → JitDumpReader R → Result (Option A) Error → JitDumpReader R → Type 0
  ReturnsHeader pick old (Ok (Some value)) new = HeaderReturned pick old value new
  ReturnsHeader pick old (Ok None) new = HeaderNotReady old new
  ReturnsHeader pick old (Err e) new = HeaderReadError old e new ⊎ FailsAfterSeekError (jit_seek_failed old) old e new

  -- a record is returned: its bytes are the first of the unread bytes; its body is in one slice if it was buffered in one piece
  pub record ReturnsJitRecord (old : JitDumpReader R) (r : JitDumpRawRecord) (new : JitDumpReader R) : Type 0 where
    pub bytes : List ℕ
    pub matches : IsRecordOf (jit_endian old) (jit_offset old) bytes r
    pub single : IsBodyContiguous (length bytes) old → IsSingle r.body
    pub unread_bytes : jit_unread_bytes old ≡ prepend bytes (jit_unread_bytes new)
    pub offset : jit_offset new ≡ jit_offset old + length bytes
    pub consumed_bytes : List ℕ
    pub consumes : Consumed (jit_source_state old) consumed_bytes (jit_source_state new)
    pub buffer_content : jit_buffered old ++ consumed_bytes ≡ bytes ++ jit_buffered new
    pub source_unchanged : HasWholeRecord (jit_endian old) (jit_offset old) (jit_buffered old) → jit_source new ≡ jit_source old
    pub same_counts : SameCounts (jit_source_state old) (jit_source_state new)
    pub reads_for : ReadsForHeaderAndBody (jit_ring_capacity old) (length bytes - 16) (length (jit_buffered old)) (length bytes + length (jit_buffered new))
        (jit_overflow old) (jit_overflow new)
    pub same_setup : SameSetup old new
    pub seek_ok_before : jit_seek_failed old ≡ false
    pub seek_ok_after : jit_seek_failed new ≡ false

  -- no complete record is buffered: one read was empty, and no read failed
  pub record RecordNotReady (old new : JitDumpReader R) : Type 0 where
    pub keeps_position : KeepsPosition old new
    pub no_whole_record : HasNoWholeRecord (jit_endian old) (jit_offset old) (jit_buffered new)
    pub ended_or_paused : EndedOrPaused (jit_source_state old) (jit_source_state new)
    pub at_most_one_pause : (jit_source_state new).pauses ≤ (jit_source_state old).pauses + 1
    pub errors : (jit_source_state new).errors ≡ (jit_source_state old).errors
    pub reads_only_needed : ReadsForRecord (record_size_at (jit_endian old) (jit_buffered new)) old new

  -- the pending header has an invalid size; if it wasn't buffered before, the overflow buffer is empty
  pub record InvalidSizeError (old : JitDumpReader R) (e : Error) (new : JitDumpReader R) : Type 0 where
    pub keeps_position : KeepsPosition old new
    pub reads_only_needed : ReadsForHeader old new
    pub overflow_empty : length (jit_buffered old) < 16 → jit_overflow new ≡ 0
    pub invalid_size : HasInvalidSize (jit_endian old) (jit_offset old) (jit_buffered new)
    pub kind : error_kind e ≡ InvalidData
    pub same_counts : SameCounts (jit_source_state old) (jit_source_state new)

  -- No complete record is buffered: the source failed, or an allocation failed for a header or a body larger than the ring.
  -- No read was empty.
  pub record RecordReadError (old : JitDumpReader R) (e : Error) (new : JitDumpReader R) : Type 0 where
    pub keeps_position : KeepsPosition old new
    pub no_whole_record : HasNoWholeRecord (jit_endian old) (jit_offset old) (jit_buffered new)
    pub cause : SourceFailed (jit_source_state old) (jit_source_state new)
        ⊎ ((part : ℕ) × IsNextPart (jit_endian old) (jit_buffered new) part × IsOverflowAllocError (jit_ring_capacity old) part e
        × SameCounts (jit_source_state old) (jit_source_state new))
    pub pauses : (jit_source_state new).pauses ≡ (jit_source_state old).pauses
    pub reads_only_needed : ReadsForRecord (record_size_at (jit_endian old) (jit_buffered new)) old new

  abbrev pub NextJitRecordError : JitDumpReader R → Error → JitDumpReader R → Type 0
  NextJitRecordError old e new = InvalidSizeError old e new ⊎ (RecordReadError old e new ⊎ FailsAfterSeekError (jit_seek_failed old) old e new)

  -- what a call for the next record does
  abbrev pub NextJitRecord : JitDumpReader R → Result (Option JitDumpRawRecord) Error → JitDumpReader R → Type 0
  NextJitRecord old (Ok (Some r)) new = ReturnsJitRecord old r new
  NextJitRecord old (Ok None) new = RecordNotReady old new
  NextJitRecord old (Err e) new = NextJitRecordError old e new

  -- The next record is skipped: its bytes are the first of the unread bytes. If its header wasn't buffered before, the
  -- overflow buffer is empty.
  pub record RecordSkipped (old new : JitDumpReader R) : Type 0 where
    pub bytes : List ℕ
    pub record_bytes_valid : IsOneRecord (jit_endian old) (jit_offset old) bytes
    pub unread_bytes : jit_unread_bytes old ≡ prepend bytes (jit_unread_bytes new)
    pub offset : jit_offset new ≡ jit_offset old + length bytes
    pub source_unchanged : HasWholeRecord (jit_endian old) (jit_offset old) (jit_buffered old) → jit_source new ≡ jit_source old
    pub same_counts : SameCounts (jit_source_state old) (jit_source_state new)
    pub same_source : SameSource (jit_source_state old) (jit_source_state new)
    pub reads_for : ReadsFor (jit_ring_capacity old) 16 16 (length (jit_buffered old)) (jit_overflow old) (jit_overflow new)
    pub overflow_empty : length (jit_buffered old) < 16 → jit_overflow new ≡ 0
    pub same_setup : SameSetup old new
    pub seek_ok_before : jit_seek_failed old ≡ false
    pub seek_ok_after : jit_seek_failed new ≡ false

  -- The next record is not completely buffered, by the size in its buffered header, and remains the next one. A steady source
  -- doesn't contain the rest of it. If the header wasn't buffered before, the overflow buffer is empty.
  pub record RecordNotSkipped (old new : JitDumpReader R) : Type 0 where
    pub unread_bytes : jit_unread_bytes old ≡ jit_unread_bytes new
    pub offset : jit_offset new ≡ jit_offset old
    pub is_truncated : IsTruncatedRecord (jit_endian old) (jit_offset old) (jit_buffered new)
    pub no_whole_record : HasNoWholeRecord (jit_endian old) (jit_offset old) (jit_buffered new)
    pub none_if_steady : IsTrue (jit_source_state old).steady → IfSome (jit_unread_bytes old) (HasNoWholeRecord (jit_endian old) (jit_offset old))
    pub same_counts : SameCounts (jit_source_state old) (jit_source_state new)
    pub same_source : SameSource (jit_source_state old) (jit_source_state new)
    pub reads_for : ReadsFor (jit_ring_capacity old) 16 16 (length (jit_buffered old)) (jit_overflow old) (jit_overflow new)
    pub overflow_empty : length (jit_buffered old) < 16 → jit_overflow new ≡ 0
    pub same_setup : SameSetup old new
    pub seek_ok_before : jit_seek_failed old ≡ false
    pub seek_ok_after : jit_seek_failed new ≡ false

  -- The next record is not completely buffered, and a seek failed. The position of the source is unspecified. If the record
  -- header wasn't buffered before, the overflow buffer is empty.
  pub record SkipSeekFailed (old new : JitDumpReader R) : Type 0 where
    pub is_truncated : IsTruncatedRecord (jit_endian old) (jit_offset old) (jit_buffered new)
    pub offset : jit_offset new ≡ jit_offset old
    pub source_failed : SourceFailed (jit_source_state old) (jit_source_state new)
    pub pauses : (jit_source_state new).pauses ≡ (jit_source_state old).pauses
    pub same_source : SameSource (jit_source_state old) (jit_source_state new)
    pub reads_for : ReadsFor (jit_ring_capacity old) 16 16 (length (jit_buffered old)) (jit_overflow old) (jit_overflow new)
    pub overflow_empty : length (jit_buffered old) < 16 → jit_overflow new ≡ 0
    pub same_setup : SameSetup old new
    pub seek_ok_before : jit_seek_failed old ≡ false
    pub seek_failed_after : jit_seek_failed new ≡ true

  -- what a skip of the next record does
  abbrev pub SkipsRecord : JitDumpReader R → Result Bool Error → JitDumpReader R → Type 0
  SkipsRecord old (Ok true) new = RecordSkipped old new
  SkipsRecord old (Ok false) new = HeaderNotReady old new ⊎ RecordNotSkipped old new
  SkipsRecord old (Err e) new =
      (InvalidSizeError old e new ⊎ HeaderReadError old e new) ⊎ (SkipSeekFailed old new ⊎ FailsAfterSeekError (jit_seek_failed old) old e new)

  -- A prefix of the source's bytes was read. It is shorter than the buffer only if a read was empty. No read failed. If the
  -- buffer is full, no read was empty, otherwise at most one.
  pub record ReadsPrefix (source : R) (size : ℕ) (prefix_bytes : List ℕ) (after : State) : Type 0 where
    pub consumes : Consumed (state source) prefix_bytes after
    pub within : length prefix_bytes ≤ size
    pub if_incomplete : length prefix_bytes < size → EndedOrPaused (state source) after
    pub errors : after.errors ≡ (state source).errors
    pub pauses : length prefix_bytes ≡ size → after.pauses ≡ (state source).pauses
    pub at_most_one_pause : after.pauses ≤ (state source).pauses + 1

  -- the file is opened: its header is parsed from the source's first bytes, and the unread bytes are those after the header
  pub record ReaderOpened (source : R) (size : ℕ) (j : JitDumpReader R) : Type 0 where
    pub prefix_bytes : List ℕ
    pub reads : ReadsPrefix source size prefix_bytes (jit_source_state j)
    pub header : IsJitHeader (jit_endian j) prefix_bytes (jit_header j)
    pub unread_bytes : (state source).bytes ≡ prepend (take (jit_offset j) prefix_bytes) (jit_unread_bytes j)
    pub buffered_bytes : jit_buffered j ≡ drop (jit_offset j) prefix_bytes
    pub offset : jit_offset j ≡ (jit_header j).total_size
    pub buffer : jit_ring_capacity j ≡ size
    pub overflow_size : jit_overflow j ≡ 0
    pub seek_ok_after : jit_seek_failed j ≡ false

  -- What opening with a buffer of this size does. If it fails, the source is dropped. If a read failed, no read before it
  -- was empty.
  abbrev pub OpensReader : R → ℕ → Result (JitDumpReader R) JitDumpError → Type 0
  OpensReader source size (Ok j) = ReaderOpened source size j
  OpensReader source size (Err (Io e)) =
      (error_kind e ≡ OutOfMemory) ⊎ ((after : State) × SourceFailed (state source) after × (after.pauses ≡ (state source).pauses))
  OpensReader source size (Err e) = (prefix_bytes : List ℕ) × ((after : State) × ReadsPrefix source size prefix_bytes after × IsJitHeaderError prefix_bytes e)
