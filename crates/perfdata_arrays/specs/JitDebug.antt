-- The results for the debug info records of a jitdump in memory.
use Rattle.std.specs.Prelude.{◌≡◌, ◌⊎◌, ℕ, ◌+◌, List, [], ◌∷◌, length, Err}
use Rattle.std.specs.IoError.{error_kind}
use Rattle.std.specs.declared.io.Error.{Error}
use Rattle.std.specs.declared.io.ErrorKind.{ErrorKind}
use Rattle.std.specs.declared.io.ErrorKind.TheVariants as kind
use Rattle.perfdata_sources.specs.Endian.{number_in}
use Rattle.perfdata_sources.specs.Raw.{bytes_of}
use Rattle.perfdata_sources.specs.declared.endian.Endianness.{Endianness}
use Rattle.perfdata_jit.specs.JitRecords.{IsDebugInfo, IsDebugInfoError}
use Rattle.perfdata_jit.specs.declared.records.JitCodeDebugInfoEntry.{JitCodeDebugInfoEntry}
use Rattle.perfdata_jit.specs.declared.records.JitCodeDebugInfoRecord.{JitCodeDebugInfoRecord}
use Rattle.perfdata_arrays.specs.JitBodies.{FindsBody, IsBodyAt}
use Rattle.linux_perf_data.specs.RecordEntries.{with_prefix, HasBytesAt}
use Rattle.perfdata_arrays.specs.declared.jit_debug.JitDebugEntry.{JitDebugEntry}
use Rattle.perfdata_arrays.specs.declared.jit_debug.JitDebugInfoResult.{JitDebugInfoResult}
use Rattle.perfdata_arrays.specs.declared.status.Status.{Status}
use Rattle.perfdata_arrays.specs.declared.status.Status.TheVariants.{JitBadBody, OutOfMemory, Success}

-- ---- entries

-- the source location at an offset, as plain numbers; its path follows sixteen bytes
abbrev pub debug_entry_at : ℕ → JitCodeDebugInfoEntry → JitDebugEntry
debug_entry_at offset e = record {
  code_address = e.code_addr;
  path_offset = offset + 16;
  path_size = length (bytes_of e.file_path);
  line = e.line;
  column = e.column;
}

-- the offset after a source location at an offset, which a NUL ends
abbrev pub after_debug_entry : ℕ → JitCodeDebugInfoEntry → ℕ
after_debug_entry offset e = offset + 16 + length (bytes_of e.file_path) + 1

-- the entries of consecutive source locations
abbrev pub debug_entries_at : ℕ → List JitCodeDebugInfoEntry → List JitDebugEntry
debug_entries_at offset [] = []
debug_entries_at offset (e ∷ es) = debug_entry_at offset e ∷ debug_entries_at (after_debug_entry offset e) es

-- the paths are at the offsets in the entries
abbrev pub HasPathsAt : List ℕ → ℕ → List JitCodeDebugInfoEntry → Type 0
HasPathsAt bytes offset [] = Unit {0}
HasPathsAt bytes offset (e ∷ es) = HasBytesAt bytes (offset + 16) (bytes_of e.file_path) × HasPathsAt bytes (after_debug_entry offset e) es

-- ---- the result

-- the status of an error in a debug info record
abbrev pub debug_error_status : ErrorKind → Status
debug_error_status kind.OutOfMemory = OutOfMemory
debug_error_status _ = JitBadBody

-- nothing is written
abbrev pub no_debug_info_with : Status → JitDebugInfoResult
no_debug_info_with status = record { code_address = 0; count = 0; status = status }

-- The record at an offset has this body, which is this debug info. Its entries are written, up to the capacity of the array, and
-- counted. Its paths are at the offsets in its entries.
pub record WritesDebugInfo (endian : Endianness) (bytes : List ℕ) (at : ℕ) (body : List ℕ) (old : List JitDebugEntry) (result : JitDebugInfoResult)
    (new : List JitDebugEntry) : Type 0 where
  pub info : JitCodeDebugInfoRecord
  pub is : IsDebugInfo (number_in endian) body info
  pub address : result.code_address ≡ info.code_addr
  pub count : result.count ≡ length info.entries.items
  pub written : new ≡ with_prefix (debug_entries_at (at + 32) info.entries.items) old
  pub paths_at : HasPathsAt bytes (at + 32) info.entries.items

-- The source locations of a body are written; or it isn't debug info, or memory ran out, and nothing is written.
abbrev pub ReadsDebugInfo : Endianness → List ℕ → ℕ → List ℕ → List JitDebugEntry → JitDebugInfoResult → List JitDebugEntry → Type 0
ReadsDebugInfo endian bytes at body old result new =
    ((result.status ≡ Success) × WritesDebugInfo endian bytes at body old result new)
    ⊎ ((e : Error) × IsDebugInfoError (number_in endian) body e × (result ≡ no_debug_info_with (debug_error_status (error_kind e))) × (new ≡ old))

-- The result for the debug info record at an offset. If there is none, nothing is written.
abbrev pub ReadsJitDebugInfo : List ℕ → ℕ → List JitDebugEntry → JitDebugInfoResult → List JitDebugEntry → Type 0
ReadsJitDebugInfo bytes at old result new =
    ((endian : Endianness) × ((body : List ℕ) × IsBodyAt endian bytes at 2 body × ReadsDebugInfo endian bytes at body old result new))
    ⊎ (FindsBody bytes at 2 (Err result.status) × (result ≡ no_debug_info_with result.status) × (new ≡ old))
