-- The metadata of recordings in memory.
use Rattle.std.specs.Prelude.{◌≡◌, ◌⊎◌, ℕ, List}
use Rattle.perfdata_sources.specs.Source.{at_start}
use Rattle.perfdata_base.specs.declared.header.PerfHeader.{PerfHeader}
use Rattle.perfdata_sections.specs.declared.error.Error.{Error}
use Rattle.linux_perf_data.specs.FileOpening.{IsFileError}
use Rattle.linux_perf_data.specs.Layout.{RecordView}
use Rattle.linux_perf_data.specs.OpenedFile.{DescribesFile}
use Rattle.linux_perf_data.specs.PipeOpening.{IsPipeError}
use Rattle.linux_perf_data.specs.declared.perf_file.PerfFile.{PerfFile}
use Rattle.perfdata_arrays.specs.Records.{FailsWithStatus, IsPipeWithRecords}
use Rattle.perfdata_arrays.specs.declared.status.Status.{Status}
use Rattle.perfdata_arrays.specs.declared.status.Status.TheVariants.{Success}

-- The bytes are a file with this metadata.
abbrev pub IsFileWith : List ℕ → PerfFile → Status → Type 0
IsFileWith bytes file status = (status ≡ Success) × ((header : PerfHeader) × DescribesFile (at_start bytes) header file)

-- The bytes are a pipe with this metadata, up to its end or first error.
abbrev pub IsPipeWith : List ℕ → PerfFile → Status → Type 0
IsPipeWith bytes file status = (records : List RecordView) × IsPipeWithRecords bytes records file status

module _ (IsWith : PerfFile → Status → Type 0) (IsError : Error → Type 0) where
  -- A call reports what the metadata say, with the status of the recording. If the recording doesn't open, it reports the status of the
  -- error.
  abbrev pub Reports : (PerfFile → Status → Type 0) → (Status → Type 0) → Type 0
  Reports OfMetadata OfError = ((file : PerfFile) × ((status : Status) × IsWith file status × OfMetadata file status))
      ⊎ ((status : Status) × FailsWithStatus status IsError × OfError status)

-- What a call reports of a file.
abbrev pub ReportsFile : List ℕ → (PerfFile → Status → Type 0) → (Status → Type 0) → Type 0
ReportsFile bytes = Reports (IsFileWith bytes) (IsFileError (at_start bytes))

-- What a call reports of a pipe.
abbrev pub ReportsPipe : List ℕ → (PerfFile → Status → Type 0) → (Status → Type 0) → Type 0
ReportsPipe bytes = Reports (IsPipeWith bytes) (IsPipeError bytes)
