-- The parsed form of a jitdump's record header (Linux's jitdump specification), and of a record by its type.
use Rattle.std.specs.Prelude.{◌≡◌, ◌≢◌, ℕ, ◌≤◌, ◌⊎◌, List, length, drop}
use Rattle.std.specs.declared.io.Error.{Error}
use Rattle.perfdata_sources.specs.Raw.{bytes_of, EndsBefore}
use Rattle.perfdata_jit.specs.JitRecords.{IsLoad, IsLoadError, move_of, IsDebugInfo, IsDebugInfoError, IsUnwinding, IsUnwindingError}
use Rattle.perfdata_jit.specs.declared.record.JitDumpRecordHeader.{JitDumpRecordHeader}
use Rattle.perfdata_jit.specs.declared.record.JitDumpRawRecord.{JitDumpRawRecord}
use Rattle.perfdata_jit.specs.declared.record.JitDumpRecord.{JitDumpRecord}
use Rattle.perfdata_jit.specs.declared.record.JitDumpRecord.TheVariants.{CodeLoad, CodeMove, CodeDebugInfo, CodeClose, CodeUnwindingInfo, Other}

-- a record of this type is returned unparsed
pub record IsUnparsedJitType (record_type : ℕ) : Type 0 where
  pub no_load : record_type ≢ 0
  pub no_move : record_type ≢ 1
  pub no_debug_info : record_type ≢ 2
  pub no_close : record_type ≢ 3
  pub no_unwinding : record_type ≢ 4

module _ (number : ℕ → List ℕ → ℕ) where
  -- the record header from sixteen bytes: the type, the record's size including its header, and the timestamp
  abbrev pub jit_record_header_of : List ℕ → JitDumpRecordHeader
  jit_record_header_of xs = record { record_type = record { 0 = number 4 xs }; total_size = number 4 (drop 4 xs); timestamp = number 8 (drop 8 xs) }

  -- the parsed record by its type; the body of a closing record is ignored, and a record of another type is unparsed
  abbrev pub IsJitRecord : JitDumpRawRecord → JitDumpRecord → Type 0
  IsJitRecord raw (CodeLoad load) = (raw.record_type.0 ≡ 0) × IsLoad number (bytes_of raw.body) load
  IsJitRecord raw (CodeMove move) = (raw.record_type.0 ≡ 1) × (48 ≤ length (bytes_of raw.body)) × (move ≡ move_of number (bytes_of raw.body))
  IsJitRecord raw (CodeDebugInfo info) = (raw.record_type.0 ≡ 2) × IsDebugInfo number (bytes_of raw.body) info
  IsJitRecord raw CodeClose = raw.record_type.0 ≡ 3
  IsJitRecord raw (CodeUnwindingInfo unwinding) = (raw.record_type.0 ≡ 4) × IsUnwinding number (bytes_of raw.body) unwinding
  IsJitRecord raw (Other same) = (same ≡ raw) × IsUnparsedJitType raw.record_type.0

  -- the body doesn't have the format of the record's type, with this error
  abbrev pub IsJitRecordError : JitDumpRawRecord → Error → Type 0
  IsJitRecordError raw e =
      ((raw.record_type.0 ≡ 0) × IsLoadError number (bytes_of raw.body) e)
      ⊎ (((raw.record_type.0 ≡ 1) × EndsBefore 48 (bytes_of raw.body) e)
      ⊎ (((raw.record_type.0 ≡ 2) × IsDebugInfoError number (bytes_of raw.body) e)
      ⊎ ((raw.record_type.0 ≡ 4) × IsUnwindingError number (bytes_of raw.body) e)))
