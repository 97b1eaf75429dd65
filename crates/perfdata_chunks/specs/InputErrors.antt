-- The first error of an input, in numbers.
use Rattle.std.specs.Prelude.{◌≡◌, ◌⊎◌, ℕ, List, replicate, Option, None, Some, Ok, Err}
use Rattle.perfdata_sections.specs.declared.error.Error.{Error}
use Rattle.perfdata_sections.specs.declared.error.Error.TheVariants as error
use Rattle.linux_perf_data.specs.InMemory.{memory_state}
use Rattle.linux_perf_data.specs.InMemoryPositions.{position_of}
use Rattle.linux_perf_data.specs.InMemoryReading.{ParsesFileInMemory, ParsesPipeInMemory, ReturnsRecordsInMemory}
use Rattle.linux_perf_data.specs.InputKind.{IsKindOfStart}
use Rattle.linux_perf_data.specs.Iter.{ReturnsEnd, ReturnsError}
use Rattle.linux_perf_data.specs.Layout.{RecordView}
use Rattle.linux_perf_data.specs.RecordEntries.{one_if_some, or_zero}
use Rattle.linux_perf_data.specs.declared.in_memory.InMemoryReader.{InMemoryReader}
use Rattle.linux_perf_data.specs.declared.in_memory.InMemoryRecords.{InMemoryRecords}
use Rattle.linux_perf_data.specs.declared.input_kind.InputKind.{InputKind}
use Rattle.linux_perf_data.specs.declared.input_kind.InputKind.TheVariants.{Pipe}
use Rattle.linux_perf_data.specs.declared.perf_file.PerfFile.{PerfFile}
use Rattle.perfdata_arrays.specs.Status.{error_status, status_code}
use Rattle.perfdata_chunks.specs.declared.input_errors.InputError.{InputError}

-- ---- the numbers of an error

-- the own size of an attribute, which is above that of its entry, and the latter
abbrev pub sizes_in : Error → ℕ × ℕ
sizes_in (error.InconsistentAttributeSizes own size) = (own, size)
sizes_in _ = (0, 0)

-- the index of the attribute that isn't consistent with the others
abbrev pub attr_index_in : Error → ℕ
attr_index_in (error.NoIdentifierDespiteMultiEvent index) = index
attr_index_in (error.InconsistentSampleIdAllWithMultiEvent index) = index
attr_index_in _ = 0

-- the first bytes, which aren't the magic of perf
abbrev pub magic_in : Error → List ℕ
magic_in (error.UnrecognizedMagicValue bytes) = bytes
magic_in _ = replicate 8 0

-- The error of the record at an offset, or without one that of the opening.
abbrev pub error_numbers : Option ℕ → Error → InputError
error_numbers offset e = record {
  offset = or_zero offset;
  attr_size = (sizes_in e).0;
  entry_size = (sizes_in e).1;
  attr_index = attr_index_in e;
  magic = magic_in e;
  status = status_code (error_status e);
  has_offset = one_if_some offset;
}

abbrev pub no_error : InputError
no_error = record { offset = 0; attr_size = 0; entry_size = 0; attr_index = 0; magic = replicate 8 0; status = 0; has_offset = 0 }

-- ---- the first error of an input

-- The next call returns the end of the records, or an error, which these are in numbers.
abbrev pub EndsRecords : InMemoryRecords → PerfFile → Option InputError → InMemoryRecords → PerfFile → Type 0
EndsRecords old file None new file' = ReturnsEnd memory_state old.records file new.records file'
EndsRecords old file (Some numbers) new file' =
    (e : Error) × ReturnsError memory_state old.records file e new.records file' × (numbers ≡ error_numbers (Some (position_of old).offset) e)

-- Consecutive calls return records, and then their end or an error.
pub record ReadsToEnd (old : InMemoryRecords) (file : PerfFile) (found : Option InputError) : Type 0 where
  pub records : List RecordView
  pub last : InMemoryRecords
  pub last_file : PerfFile
  pub returned : ReturnsRecordsInMemory old file records last last_file
  pub new : InMemoryRecords
  pub new_file : PerfFile
  pub ends : EndsRecords last last_file found new new_file

-- The input doesn't open, or its records are read to their end.
abbrev pub FindsFileError : List ℕ → Option InputError → Type 0
FindsFileError bytes found =
    ((e : Error) × ParsesFileInMemory bytes (Err e) × (found ≡ Some (error_numbers None e)))
    ⊎ ((reader : InMemoryReader) × ParsesFileInMemory bytes (Ok reader) × ReadsToEnd reader.records reader.perf_file found)

abbrev pub FindsPipeError : List ℕ → Option InputError → Type 0
FindsPipeError bytes found =
    ((e : Error) × ParsesPipeInMemory bytes (Err e) × (found ≡ Some (error_numbers None e)))
    ⊎ ((reader : InMemoryReader) × ParsesPipeInMemory bytes (Ok reader) × ReadsToEnd reader.records reader.perf_file found)

-- An input that starts as a pipe is read as one, and every other one as a file.
abbrev pub FindsErrorOf : Option InputKind → List ℕ → Option InputError → Type 0
FindsErrorOf (Some Pipe) bytes found = FindsPipeError bytes found
FindsErrorOf _ bytes found = FindsFileError bytes found

abbrev pub FindsError : List ℕ → Option InputError → Type 0
FindsError bytes found = (kind : Option InputKind) × IsKindOfStart bytes kind × FindsErrorOf kind bytes found
