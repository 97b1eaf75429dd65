-- The entries of records, and the result for the records of a whole input.
use Rattle.std.specs.Prelude.{◌≡◌, ◌≢◌, ◌⊎◌, ℕ, ◌+◌, List, [], ◌++◌, length, drop, None}
use Rattle.perfdata_sources.specs.declared.endian.Endianness.{Endianness}
use Rattle.perfdata_sections.specs.declared.error.Error.{Error}
use Rattle.perfdata_sections.specs.declared.error.Error.TheVariants.{Memory}
use Rattle.linux_perf_data.specs.declared.perf_file.PerfFile.{PerfFile}
use Rattle.linux_perf_data.specs.LateMetadata.{HasValidMetadata}
use Rattle.linux_perf_data.specs.Layout.{RecordView, LayoutEnd, ends_complete, ends_with_error, LayoutError, RemainingRecords, ConsistsOfMarkers, IsRecord, attributes_in_records, record_type_of}
use Rattle.linux_perf_data.specs.RecordFraming.{IsErrorFor}
use Rattle.linux_perf_data.specs.PipeOpening.{EndsMetadata, IsPipeError}
use Rattle.linux_perf_data.specs.PipeReading.{BeginsPipe, HoldsAllMetadata}
use Rattle.linux_perf_data.specs.Reading.{AreFirstRecords, end_after}
use Rattle.linux_perf_data.specs.RecordEntries.{HasBodiesAt, record_entries_at}
use Rattle.perfdata_arrays.specs.Overwrites.{with_prefix_from}
use Rattle.perfdata_arrays.specs.Status.{error_status}
use Rattle.perfdata_arrays.specs.declared.status.Status.{Status}
use Rattle.perfdata_arrays.specs.declared.status.Status.TheVariants.{Success}
use Rattle.linux_perf_data.specs.declared.in_memory.entries.RecordEntry.{RecordEntry}
use Rattle.perfdata_arrays.specs.declared.records.RecordsResult.{RecordsResult}

-- ---- the status of a call

-- The status is that of an error. The error has this cause unless memory ran out.
abbrev pub FailsWithStatus : Status → (Error → Type 0) → Type 0
FailsWithStatus status Cause = (e : Error) × (status ≡ error_status e) × (e ≢ Memory → Cause e)

-- These are the first records of the bytes. After them the bytes continue with markers and then a whole metadata record, which has all
-- of its metadata.
pub record FollowedByMetadata (order : Endianness) (bytes : List ℕ) (records : List RecordView) : Type 0 where
  pub markers : List ℕ
  pub valid_markers : ConsistsOfMarkers order None (end_after 0 records) markers
  pub raw_record : List ℕ
  pub is_record : IsRecord order raw_record
  pub valid_metadata : HasValidMetadata order (record_type_of order raw_record) (drop 8 raw_record)
  pub rest : List ℕ
  pub split : drop (end_after 0 records) bytes ≡ markers ++ (raw_record ++ rest)

-- The layout is complete with these records, or they are the first of the layout's and an error follows them. Memory runs out only
-- where it may. Every other error is that of the layout, which has no more records.
abbrev pub EndsWithStatus : (List RecordView → LayoutEnd → Type 0) → (List RecordView → Type 0) → List RecordView → Status → Type 0
EndsWithStatus Come MayNeedMemory records status =
    ((status ≡ Success) × Come records ends_complete)
    ⊎ (AreFirstRecords Come records × ((e : Error) × (status ≡ error_status e) × (e ≡ Memory → MayNeedMemory records)
    × (e ≢ Memory → (f : LayoutError) × Come records (ends_with_error f) × IsErrorFor f e)))

-- ---- the arrays

-- The entries of the records from index `first` on are written, up to the capacity of the array. `count` is the number of all
-- records. Their bodies are at the offsets in their entries.
pub record WritesRecords (bytes : List ℕ) (base start : ℕ) (records : List RecordView) (old : List RecordEntry) (total : RecordsResult)
    (new : List RecordEntry) : Type 0 where
  pub count : total.count ≡ length records
  pub written : new ≡ with_prefix_from start (record_entries_at base records) old
  pub body_bytes_at : HasBodiesAt bytes base records

-- ---- a pipe

-- The bytes are a pipe with these records after its opening. The `PerfFile` holds exactly the metadata of the opening and of the
-- records.
pub record IsPipeWithRecords (bytes : List ℕ) (records : List RecordView) (file : PerfFile) (status : Status) : Type 0 where
  pub endian : Endianness
  pub metadata_records : List (List ℕ)
  pub rest : List ℕ
  pub has_opening : BeginsPipe endian metadata_records bytes rest
  pub after_opening : EndsMetadata endian rest
  pub ends : EndsWithStatus (RemainingRecords endian rest None 0 0 (attributes_in_records endian None metadata_records))
      (FollowedByMetadata endian rest) records status
  pub file_matches : HoldsAllMetadata endian metadata_records records file

-- a pipe whose first record after the opening is at offset `base`
pub record IsPipeWithFirstRecordAt (bytes : List ℕ) (base : ℕ) (records : List RecordView) (status : Status) : Type 0 where
  pub file : PerfFile
  pub is : IsPipeWithRecords bytes records file status
  pub first_record_at : base + length is.rest ≡ length bytes

-- The result for a pipe's records after its opening, as for a file.
pub record ReadsPipeRecords (bytes : List ℕ) (start : ℕ) (old : List RecordEntry) (total : RecordsResult) (new : List RecordEntry) : Type 0 where
  pub records : List RecordView
  pub base : ℕ
  pub writes : WritesRecords bytes base start records old total new
  pub ends : ((records ≡ []) × FailsWithStatus total.status (IsPipeError bytes)) ⊎ IsPipeWithFirstRecordAt bytes base records total.status
