-- The results for a jitdump in memory: its header, its records, a load record.
use Rattle.std.specs.Prelude.{◌≡◌, ◌≢◌, ◌⊎◌, ℕ, ◌+◌, ◌<◌, ◌≤◌, max, List, [], ◌∷◌, ◌++◌, length, take, drop, Option, None, Some, Result, Ok, Err}
use Rattle.std.specs.List.{concat}
use Rattle.perfdata_sources.specs.declared.endian.Endianness.{Endianness}
use Rattle.perfdata_sources.specs.declared.endian.Endianness.TheVariants.{LittleEndian, BigEndian}
use Rattle.perfdata_jit.specs.RecordBytes.{record_header_at, AreRecords, HasNoWholeRecord, HasInvalidSize, IsOneRecord}
use Rattle.perfdata_sources.specs.Endian.{number_in}
use Rattle.perfdata_sources.specs.Raw.{bytes_of}
use Rattle.perfdata_jit.specs.JitRecords.{IsLoad, IsLoadError}
use Rattle.perfdata_jit.specs.declared.records.JitCodeLoadRecord.{JitCodeLoadRecord}
use Rattle.std.specs.declared.io.Error.{Error}
use Rattle.linux_perf_data.specs.RecordEntries.{HasBytesAt, with_prefix}
use Rattle.perfdata_arrays.specs.declared.jit.JitLoad.{JitLoad}
use Rattle.perfdata_jit.specs.JitHeader.{IsJitHeader, IsJitHeaderError}
use Rattle.perfdata_jit.specs.declared.error.JitDumpError.{JitDumpError}
use Rattle.perfdata_jit.specs.declared.header.JitDumpHeader.{JitDumpHeader}
use Rattle.perfdata_arrays.specs.Status.{jit_error_status}
use Rattle.perfdata_arrays.specs.declared.status.Status.{Status}
use Rattle.perfdata_arrays.specs.declared.status.Status.TheVariants.{Success, Truncated, JitBadRecordSize, JitWrongType, JitBadBody}
use Rattle.perfdata_arrays.specs.declared.jit.JitHeader.{JitHeader}
use Rattle.perfdata_arrays.specs.declared.jit.JitRecord.{JitRecord}
use Rattle.perfdata_arrays.specs.declared.jit.JitRecordsResult.{JitRecordsResult}

-- ---- the header

-- the prefix of the file that has to contain the whole header
abbrev pub header_window : List ℕ → List ℕ
header_window bytes = take 4096 bytes

-- the prefix isn't a header, and the status is that of the error
abbrev pub HasHeaderError : List ℕ → Status → Type 0
HasHeaderError bytes status = (e : JitDumpError) × (status ≡ jit_error_status e) × IsJitHeaderError (header_window bytes) e

abbrev pub endian_number_of : Endianness → ℕ
endian_number_of LittleEndian = 0
endian_number_of BigEndian = 1

-- a header as plain numbers
abbrev pub header_entry : Endianness → JitDumpHeader → JitHeader
header_entry endian h = record {
  timestamp = h.timestamp;
  flags = h.flags;
  version = h.version;
  size = h.total_size;
  elf_machine = h.elf_machine_arch;
  pid = h.pid;
  is_big_endian = endian_number_of endian;
  reserved = 0;
}

-- The header is written; or it has an error, and the old value is unchanged.
abbrev pub ReadsJitHeader : List ℕ → JitHeader → Status → JitHeader → Type 0
ReadsJitHeader bytes old status new =
    ((status ≡ Success) × ((endian : Endianness) × ((h : JitDumpHeader) × IsJitHeader endian (header_window bytes) h × (new ≡ header_entry endian h))))
    ⊎ (HasHeaderError bytes status × (new ≡ old))

-- ---- records

module _ (endian : Endianness) where
  -- the entry of the record with these bytes, which starts at the offset
  abbrev pub jit_entry : ℕ → List ℕ → JitRecord
  jit_entry offset raw = record {
    offset = offset;
    timestamp = (record_header_at endian raw).timestamp;
    record_type = (record_header_at endian raw).record_type.0;
    size = (record_header_at endian raw).total_size;
  }

  -- the entries of consecutive records
  abbrev pub jit_entries : ℕ → List (List ℕ) → List JitRecord
  jit_entries offset [] = []
  jit_entries offset (raw ∷ raw_records) = jit_entry offset raw ∷ jit_entries (offset + length raw) raw_records

  -- a complete record with these bytes starts at an offset
  pub record HasWholeRecordAt (bytes : List ℕ) (offset : ℕ) (raw : List ℕ) : Type 0 where
    pub rest : List ℕ
    pub split : drop offset bytes ≡ raw ++ rest
    pub record_valid : IsOneRecord endian offset raw

  -- the record at an offset: a complete record, no complete record, or a record header with an invalid size
  abbrev pub FindsRecord : List ℕ → ℕ → Result (Option JitRecord) Status → Type 0
  FindsRecord bytes offset (Ok (Some r)) = (raw : List ℕ) × HasWholeRecordAt bytes offset raw × (r ≡ jit_entry offset raw)
  FindsRecord bytes offset (Ok None) = HasNoWholeRecord endian offset (drop offset bytes)
  FindsRecord bytes offset (Err status) = (status ≡ JitBadRecordSize) × HasInvalidSize endian offset (drop offset bytes)

  -- These records follow one another from an offset on. Their entries are written as a prefix of an array, which has capacity for
  -- all of them. `next` is the offset after them.
  pub record WritesJitRecords (bytes : List ℕ) (from : ℕ) (raw_records : List (List ℕ)) (old : List JitRecord) (count next : ℕ)
      (new : List JitRecord) : Type 0 where
    pub counted : count ≡ length raw_records
    pub next_offset_is : next ≡ from + length (concat raw_records)
    pub split : drop from bytes ≡ concat raw_records ++ drop next bytes
    pub elements : AreRecords endian from raw_records
    pub within_capacity : length raw_records ≤ length old
    pub written : new ≡ with_prefix (jit_entries from raw_records) old

-- The array is full, or no complete record follows, or the array isn't full and the record that follows has an invalid size.
abbrev pub EndsJitRecords : Endianness → List ℕ → ℕ → ℕ → ℕ → Status → Type 0
EndsJitRecords endian bytes count capacity next status =
    ((status ≡ Success) × ((count ≡ capacity) ⊎ HasNoWholeRecord endian next (drop next bytes)))
    ⊎ ((status ≡ JitBadRecordSize) × (count < capacity) × HasInvalidSize endian next (drop next bytes))

-- The records of a jitdump are written from offset `from` on, or from the first record on if `from` is within the header.
pub record JitRecordsRead (bytes : List ℕ) (from : ℕ) (old : List JitRecord) (total : JitRecordsResult) (new : List JitRecord) : Type 0 where
  pub endian : Endianness
  pub header : JitDumpHeader
  pub is : IsJitHeader endian (header_window bytes) header
  pub raw_records : List (List ℕ)
  pub writes : WritesJitRecords endian bytes (max from header.total_size) raw_records old total.count total.next_offset new
  pub ends : EndsJitRecords endian bytes total.count (length old) total.next_offset total.status

-- the header has an error, and nothing is written
pub record JitRecordsUnread (bytes : List ℕ) (from : ℕ) (old : List JitRecord) (total : JitRecordsResult) (new : List JitRecord) : Type 0 where
  pub header_error : HasHeaderError bytes total.status
  pub count : total.count ≡ 0
  pub next : total.next_offset ≡ from
  pub unchanged : new ≡ old

abbrev pub ReadsJitRecords : List ℕ → ℕ → List JitRecord → JitRecordsResult → List JitRecord → Type 0
ReadsJitRecords bytes from old total new = JitRecordsRead bytes from old total new ⊎ JitRecordsUnread bytes from old total new

-- ---- a load record

-- a load record at an offset, as plain numbers
abbrev pub load_entry : ℕ → JitCodeLoadRecord → JitLoad
load_entry at load = record {
  vma = load.vma;
  code_address = load.code_addr;
  code_index = load.code_index;
  name_offset = at + 56;
  name_size = length (bytes_of load.function_name);
  code_offset = at + 57 + length (bytes_of load.function_name);
  code_size = length (bytes_of load.code_bytes);
  pid = load.pid;
  tid = load.tid;
}

-- The complete record at an offset is this load record. Its name and its code are at the offsets in its entry.
pub record IsLoadAt (endian : Endianness) (bytes : List ℕ) (at : ℕ) (load : JitCodeLoadRecord) : Type 0 where
  pub raw : List ℕ
  pub whole_record : HasWholeRecordAt endian bytes at raw
  pub is_load : (record_header_at endian raw).record_type.0 ≡ 0
  pub is : IsLoad (number_in endian) (drop 16 raw) load
  pub name_bytes_at : HasBytesAt bytes (at + 56) (bytes_of load.function_name)
  pub code_bytes_at : HasBytesAt bytes (at + 57 + length (bytes_of load.function_name)) (bytes_of load.code_bytes)

-- The complete record at an offset is a load record, or a record of another type, or a load record with an invalid body.
abbrev pub ParsesLoad : Endianness → List ℕ → ℕ → Result JitLoad Status → Type 0
ParsesLoad endian bytes at (Ok out) = (load : JitCodeLoadRecord) × IsLoadAt endian bytes at load × (out ≡ load_entry at load)
ParsesLoad endian bytes at (Err status) =
    ((status ≡ JitWrongType) × ((raw : List ℕ) × HasWholeRecordAt endian bytes at raw × ((record_header_at endian raw).record_type.0 ≢ 0)))
    ⊎ ((status ≡ JitBadBody) × ((raw : List ℕ) × HasWholeRecordAt endian bytes at raw × ((e : Error) × IsLoadError (number_in endian) (drop 16 raw) e)))

-- A load record is written; or there is no complete record at the offset, its size is invalid, or it isn't a valid load record,
-- and the old value is unchanged.
abbrev pub ReadsLoadAt : Endianness → List ℕ → ℕ → JitLoad → Status → JitLoad → Type 0
ReadsLoadAt endian bytes at old status new =
    ((status ≡ Success) × ParsesLoad endian bytes at (Ok new))
    ⊎ (((status ≡ Truncated) × HasNoWholeRecord endian at (drop at bytes) × (new ≡ old))
    ⊎ (((status ≡ JitBadRecordSize) × HasInvalidSize endian at (drop at bytes) × (new ≡ old))
    ⊎ (ParsesLoad endian bytes at (Err status) × (new ≡ old))))

-- The header has an error, and the old value is unchanged; or the result is that of the load record.
abbrev pub ReadsJitLoad : List ℕ → ℕ → JitLoad → Status → JitLoad → Type 0
ReadsJitLoad bytes at old status new =
    ((endian : Endianness) × ((h : JitDumpHeader) × IsJitHeader endian (header_window bytes) h × ReadsLoadAt endian bytes at old status new))
    ⊎ (HasHeaderError bytes status × (new ≡ old))
