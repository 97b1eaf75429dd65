-- The results for the move records and the unwinding info records of a jitdump in memory.
use Rattle.std.specs.Prelude.{◌≡◌, ◌≢◌, ◌⊎◌, ℕ, ◌+◌, ◌<◌, ◌≤◌, List, length, drop, Result, Ok, Err}
use Rattle.std.specs.Borrow.{Bor}
use Rattle.std.specs.declared.io.Error.{Error}
use Rattle.perfdata_sources.specs.Endian.{number_in}
use Rattle.perfdata_sources.specs.Raw.{bytes_of}
use Rattle.perfdata_sources.specs.declared.endian.Endianness.{Endianness}
use Rattle.perfdata_jit.specs.RecordBytes.{record_header_at, HasNoWholeRecord, HasInvalidSize}
use Rattle.perfdata_jit.specs.JitRecords.{IsUnwinding, IsUnwindingError, move_of}
use Rattle.perfdata_jit.specs.JitHeader.{IsJitHeader}
use Rattle.perfdata_jit.specs.declared.header.JitDumpHeader.{JitDumpHeader}
use Rattle.perfdata_jit.specs.declared.records.JitCodeMoveRecord.{JitCodeMoveRecord}
use Rattle.perfdata_jit.specs.declared.records.JitCodeUnwindingInfoRecord.{JitCodeUnwindingInfoRecord}
use Rattle.linux_perf_data.specs.RecordEntries.{HasBytesAt}
use Rattle.perfdata_arrays.specs.Jit.{HasHeaderError, HasWholeRecordAt, header_window}
use Rattle.perfdata_arrays.specs.declared.status.Status.{Status}
use Rattle.perfdata_arrays.specs.declared.status.Status.TheVariants.{Success, Truncated, JitBadRecordSize, JitWrongType, JitBadBody}
use Rattle.perfdata_arrays.specs.declared.jit_bodies.JitMove.{JitMove}
use Rattle.perfdata_arrays.specs.declared.jit_bodies.JitUnwinding.{JitUnwinding}

-- ---- the body of a record

-- The bytes are a jitdump whose complete record at an offset has this type and this body.
pub record IsBodyAt (endian : Endianness) (bytes : List ℕ) (at record_type : ℕ) (body : List ℕ) : Type 0 where
  pub header : JitDumpHeader
  pub is_header : IsJitHeader endian (header_window bytes) header
  pub raw : List ℕ
  pub whole_record : HasWholeRecordAt endian bytes at raw
  pub is_type : (record_header_at endian raw).record_type.0 ≡ record_type
  pub body_is : body ≡ drop 16 raw

-- A jitdump has no complete record at an offset, or its size is invalid, or it has another type.
abbrev pub HasNoBody : Endianness → List ℕ → ℕ → ℕ → Status → Type 0
HasNoBody endian bytes at record_type status =
    ((status ≡ Truncated) × HasNoWholeRecord endian at (drop at bytes))
    ⊎ (((status ≡ JitBadRecordSize) × HasInvalidSize endian at (drop at bytes))
    ⊎ ((status ≡ JitWrongType) × ((raw : List ℕ) × HasWholeRecordAt endian bytes at raw × ((record_header_at endian raw).record_type.0 ≢ record_type))))

-- The body of the record at an offset; or the header has an error, or there is no such body.
abbrev pub FindsBody : List ℕ → ℕ → ℕ → Result (Endianness × Bor (List ℕ)) Status → Type 0
FindsBody bytes at record_type (Ok found) = IsBodyAt found.0 bytes at record_type found.1.now
FindsBody bytes at record_type (Err status) =
    HasHeaderError bytes status
    ⊎ ((endian : Endianness) × ((header : JitDumpHeader) × IsJitHeader endian (header_window bytes) header × HasNoBody endian bytes at record_type status))

-- ---- a move record

-- a move record as plain numbers
abbrev pub move_entry : JitCodeMoveRecord → JitMove
move_entry moved = record {
  vma = moved.vma;
  old_code_address = moved.old_code_addr;
  new_code_address = moved.new_code_addr;
  code_size = moved.code_size;
  code_index = moved.code_index;
  pid = moved.pid;
  tid = moved.tid;
}

-- The numbers of a body are written; or it has fewer than 48 bytes, and the old value is unchanged.
abbrev pub ReadsMove : Endianness → List ℕ → JitMove → Status → JitMove → Type 0
ReadsMove endian body old status new =
    ((status ≡ Success) × (48 ≤ length body) × (new ≡ move_entry (move_of (number_in endian) body)))
    ⊎ ((status ≡ JitBadBody) × (length body < 48) × (new ≡ old))

-- The result for the move record at an offset. If there is none, the old value is unchanged.
abbrev pub ReadsJitMove : List ℕ → ℕ → JitMove → Status → JitMove → Type 0
ReadsJitMove bytes at old status new =
    ((endian : Endianness) × ((body : List ℕ) × IsBodyAt endian bytes at 1 body × ReadsMove endian body old status new))
    ⊎ (FindsBody bytes at 1 (Err status) × (new ≡ old))

-- ---- an unwinding info record

-- an unwinding info record at an offset, as plain numbers
abbrev pub unwinding_entry : ℕ → JitCodeUnwindingInfoRecord → JitUnwinding
unwinding_entry at unwinding = record {
  mapped_size = unwinding.mapped_size;
  eh_frame_hdr_offset = at + 40;
  eh_frame_hdr_size = length (bytes_of unwinding.eh_frame_hdr);
  eh_frame_offset = at + 40 + length (bytes_of unwinding.eh_frame_hdr);
  eh_frame_size = length (bytes_of unwinding.eh_frame);
}

-- The body is this unwinding info. Its index and its data are at the offsets in its entry.
pub record IsUnwindingAt (endian : Endianness) (bytes : List ℕ) (at : ℕ) (body : List ℕ) (unwinding : JitCodeUnwindingInfoRecord) : Type 0 where
  pub is : IsUnwinding (number_in endian) body unwinding
  pub eh_frame_hdr_at : HasBytesAt bytes (at + 40) (bytes_of unwinding.eh_frame_hdr)
  pub eh_frame_at : HasBytesAt bytes (at + 40 + length (bytes_of unwinding.eh_frame_hdr)) (bytes_of unwinding.eh_frame)

-- The numbers of a body are written; or it isn't unwinding info, and the old value is unchanged.
abbrev pub ReadsUnwinding : Endianness → List ℕ → ℕ → List ℕ → JitUnwinding → Status → JitUnwinding → Type 0
ReadsUnwinding endian bytes at body old status new =
    ((status ≡ Success) × ((unwinding : JitCodeUnwindingInfoRecord) × IsUnwindingAt endian bytes at body unwinding × (new ≡ unwinding_entry at unwinding)))
    ⊎ ((status ≡ JitBadBody) × ((e : Error) × IsUnwindingError (number_in endian) body e) × (new ≡ old))

-- The result for the unwinding info record at an offset. If there is none, the old value is unchanged.
abbrev pub ReadsJitUnwinding : List ℕ → ℕ → JitUnwinding → Status → JitUnwinding → Type 0
ReadsJitUnwinding bytes at old status new =
    ((endian : Endianness) × ((body : List ℕ) × IsBodyAt endian bytes at 4 body × ReadsUnwinding endian bytes at body old status new))
    ⊎ (FindsBody bytes at 4 (Err status) × (new ≡ old))
