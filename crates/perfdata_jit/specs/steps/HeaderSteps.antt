-- The steps of a `JitDumpReader`'s calls: peek the next record header, check it, and buffer its body.
use Rattle.std.specs.Prelude.{◌≡◌, ℕ, ◌+◌, ◌-◌, ◌^◌, ◌<◌, ◌≤◌, ◌⊎◌, List, length, Option, None, Some, Result, Ok, Err}
use Rattle.std.specs.declared.io.Error.{Error}
use Rattle.perfdata_sources.specs.Source.{State}
use Rattle.perfdata_jit.specs.RecordBytes.{record_header_at, HasWholeRecord}
use Rattle.perfdata_jit.specs.ReadBuffer.{IsContiguous}
use Rattle.perfdata_jit.specs.BufferedReader.{SameCounts, FailsAfterSeekError, buffered_in}
use Rattle.perfdata_jit.specs.JitDumpReader.{IsBodyContiguous, jit_buffered, jit_offset, jit_endian, jit_overflow, jit_ring_capacity, jit_source, jit_seek_failed, ReadsForHeaderAndBody, KeepsPosition, ReadsForHeader, HeaderNotReady, HeaderReadError, InvalidSizeError, RecordNotReady, NextJitRecordError, jit_source_state}
use Rattle.perfdata_jit.specs.declared.record.JitDumpRecordHeader.{JitDumpRecordHeader}
use Rattle.perfdata_jit.specs.declared.jitdump_reader.JitDumpReader.{JitDumpReader}

module _ {R : Type 0} (state : R → State) where
  -- the next record header is pending; if it wasn't buffered before, the overflow buffer is empty
  pub record HeaderPeeked (old : JitDumpReader R) (bytes : List ℕ) (new : JitDumpReader R) : Type 0 where
    pub keeps_position : KeepsPosition state old new
    pub reads_only_needed : ReadsForHeader old new
    pub overflow_empty : length (jit_buffered old) < 16 → jit_overflow new ≡ 0
    pub exact_len : length bytes ≡ 16
    pub pending_header : new.pending_header ≡ Some bytes
    pub keeps_contiguous : (n : ℕ) → 16 ≤ n → IsBodyContiguous n old → IsContiguous (n - 16) new.reader.buffer
    pub same_counts : SameCounts (jit_source_state state old) (jit_source_state state new)

  abbrev pub PeeksHeader : JitDumpReader R → Result (Option (List ℕ)) Error → JitDumpReader R → Type 0
  PeeksHeader old (Ok (Some bytes)) new = HeaderPeeked old bytes new
  PeeksHeader old (Ok None) new = HeaderNotReady state old new
  PeeksHeader old (Err e) new = HeaderReadError state old e new ⊎ FailsAfterSeekError (jit_seek_failed old) old e new

  -- the next record header is pending, and its size is valid
  pub record ValidHeaderPeeked (old : JitDumpReader R) (header : JitDumpRecordHeader) (new : JitDumpReader R) : Type 0 where
    pub bytes : List ℕ
    pub header_peeked : HeaderPeeked old bytes new
    pub matches : header ≡ record_header_at (jit_endian old) bytes
    pub min_size : 16 ≤ header.total_size
    pub end_fits : jit_offset old + header.total_size < 2 ^ 64

  abbrev pub PeeksValidHeader : JitDumpReader R → Result (Option JitDumpRecordHeader) Error → JitDumpReader R → Type 0
  PeeksValidHeader old (Ok (Some header)) new = ValidHeaderPeeked old header new
  PeeksValidHeader old (Ok None) new = HeaderNotReady state old new
  PeeksValidHeader old (Err e) new = InvalidSizeError state old e new ⊎ (HeaderReadError state old e new ⊎ FailsAfterSeekError (jit_seek_failed old) old e new)

  -- the next record header is pending, and its body is buffered
  pub record RecordBuffered (old : JitDumpReader R) (header : JitDumpRecordHeader) (new : JitDumpReader R) : Type 0 where
    pub keeps_position : KeepsPosition state old new
    pub bytes : List ℕ
    pub exact_len : length bytes ≡ 16
    pub pending_header : new.pending_header ≡ Some bytes
    pub matches : header ≡ record_header_at (jit_endian old) bytes
    pub min_size : 16 ≤ header.total_size
    pub end_fits : jit_offset old + header.total_size < 2 ^ 64
    pub body_buffered : header.total_size - 16 ≤ length (buffered_in new.reader)
    pub keeps_contiguous : IsBodyContiguous header.total_size old → IsContiguous (header.total_size - 16) new.reader.buffer
    pub source_unchanged : HasWholeRecord (jit_endian old) (jit_offset old) (jit_buffered old) → jit_source new ≡ jit_source old
    pub same_counts : SameCounts (jit_source_state state old) (jit_source_state state new)
    pub reads_for : ReadsForHeaderAndBody (jit_ring_capacity old) (header.total_size - 16) (length (jit_buffered old)) (length (jit_buffered new))
        (jit_overflow old) (jit_overflow new)

  abbrev pub BuffersRecord : JitDumpReader R → Result (Option JitDumpRecordHeader) Error → JitDumpReader R → Type 0
  BuffersRecord old (Ok (Some header)) new = RecordBuffered old header new
  BuffersRecord old (Ok None) new = RecordNotReady state old new
  BuffersRecord old (Err e) new = NextJitRecordError state old e new
