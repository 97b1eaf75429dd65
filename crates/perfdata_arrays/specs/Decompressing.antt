-- What is written of a recording without compression.
use Rattle.std.specs.Prelude.{◌≡◌, ◌⊎◌, ℕ, ◌<◌, List, length, Option, None, Some}
use Rattle.perfdata_sources.specs.Source.{at_start}
use Rattle.perfdata_sections.specs.declared.error.Error.{Error}
use Rattle.linux_perf_data.specs.FileOpening.{IsFileError}
use Rattle.linux_perf_data.specs.InputKind.{IsKindOfStart}
use Rattle.linux_perf_data.specs.Layout.{RecordView}
use Rattle.linux_perf_data.specs.PipeOpening.{IsPipeError}
use Rattle.linux_perf_data.specs.RecordEntries.{with_prefix}
use Rattle.linux_perf_data.specs.declared.in_memory.position.RecordPosition.{RecordPosition}
use Rattle.linux_perf_data.specs.declared.input_kind.InputKind.{InputKind}
use Rattle.linux_perf_data.specs.declared.input_kind.InputKind.TheVariants.{File, Pipe, JitDump}
use Rattle.linux_perf_data.specs.declared.perf_file.PerfFile.{PerfFile}
use Rattle.perfdata_arrays.specs.Metadata.{IsPipeWith}
use Rattle.perfdata_arrays.specs.Pages.{IsPage}
use Rattle.perfdata_arrays.specs.Records.{FailsWithStatus}
use Rattle.perfdata_arrays.specs.declared.decompressing.DecompressResult.{DecompressResult}
use Rattle.perfdata_arrays.specs.declared.status.Status.{Status}
use Rattle.perfdata_arrays.specs.declared.status.Status.TheVariants.{BadMagic, Compressed, OutOfMemory}

-- ---- the records of the input as they are

-- The status of the end of a file's records from a position on: a page that isn't full has them all.
pub record FileEnds (bytes : List ℕ) (from : RecordPosition) (status : Status) : Type 0 where
  pub base : ℕ
  pub capacity : ℕ
  pub records : List RecordView
  pub next : RecordPosition
  pub has_all : length records < capacity
  pub is_page : IsPage bytes base from capacity records status next

-- The status of the end of a pipe's records.
abbrev pub PipeEnds : List ℕ → Status → Type 0
PipeEnds bytes status = (file : PerfFile) × IsPipeWith bytes file status

-- ---- what is written

abbrev pub WritesNothing : Status → List ℕ → DecompressResult → List ℕ → Type 0
WritesNothing status old result new = (result.status ≡ status) × (result.size ≡ 0) × (new ≡ old)

-- The input is written as it is, up to the capacity of the array.
abbrev pub WritesInput : List ℕ → Status → List ℕ → DecompressResult → List ℕ → Type 0
WritesInput bytes status old result new = (result.status ≡ status) × (result.size ≡ length bytes) × (new ≡ with_prefix bytes old)

-- A record is compressed, or memory ran out before all records were read.
abbrev pub MayBeCompressed : Status → Type 0
MayBeCompressed status = (status ≡ Compressed) ⊎ (status ≡ OutOfMemory)

module _ (bytes old : List ℕ) (result : DecompressResult) (new : List ℕ) where
  -- If no record up to the end or the first error is compressed, the input is written, and if the opening has another error, nothing is.
  abbrev pub WritesPlain : (Status → Type 0) → (Error → Type 0) → Type 0
  WritesPlain EndsWith IsError = ((status : Status) × EndsWith status × (MayBeCompressed status ⊎ WritesInput bytes status old result new))
      ⊎ ((status : Status) × FailsWithStatus status IsError × (MayBeCompressed status ⊎ WritesNothing status old result new))

  -- By the kind of the input.
  abbrev pub WritesPlainOf : Option InputKind → Type 0
  WritesPlainOf (Some File) = WritesPlain (FileEnds bytes (record { offset = 0; round = 0 })) (IsFileError (at_start bytes))
  WritesPlainOf (Some Pipe) = WritesPlain (PipeEnds bytes) (IsPipeError bytes)
  WritesPlainOf (Some JitDump) = WritesNothing BadMagic old result new
  WritesPlainOf None = WritesNothing BadMagic old result new

  abbrev pub WritesPlainInput : Type 0
  WritesPlainInput = (kind : Option InputKind) × IsKindOfStart bytes kind × WritesPlainOf kind
