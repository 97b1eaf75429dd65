-- Steps of private functions: the metadata of recordings in memory.
use Rattle.std.specs.Prelude.{ℕ, List, Result, Ok, Err}
use Rattle.perfdata_sources.specs.Source.{at_start}
use Rattle.perfdata_sections.specs.declared.error.Error.{Error}
use Rattle.linux_perf_data.specs.FileOpening.{IsFileError}
use Rattle.linux_perf_data.specs.PipeOpening.{IsPipeError}
use Rattle.linux_perf_data.specs.declared.perf_file.PerfFile.{PerfFile}
use Rattle.perfdata_arrays.specs.Records.{FailsWithStatus}
use Rattle.perfdata_arrays.specs.declared.metadata.Metadata.{Metadata}
use Rattle.perfdata_arrays.specs.declared.status.Status.{Status}
use Rattle.perfdata_arrays.specs.Metadata.{IsFileWith, IsPipeWith}

module _ (IsWith : PerfFile → Status → Type 0) (IsError : Error → Type 0) where
  -- the metadata were read, or the recording doesn't open
  abbrev pub ReadsMetadata : Result Metadata Status → Type 0
  ReadsMetadata (Ok m) = IsWith m.perf_file m.status
  ReadsMetadata (Err status) = FailsWithStatus status IsError

-- what a call reports of metadata that were read, or of the status of an error
abbrev pub ReportsOf : (PerfFile → Status → Type 0) → (Status → Type 0) → Result Metadata Status → Type 0
ReportsOf OfMetadata OfError (Ok m) = OfMetadata m.perf_file m.status
ReportsOf OfMetadata OfError (Err status) = OfError status

abbrev pub ReadsFileMetadata : List ℕ → Result Metadata Status → Type 0
ReadsFileMetadata bytes = ReadsMetadata (IsFileWith bytes) (IsFileError (at_start bytes))

abbrev pub ReadsPipeMetadata : List ℕ → Result Metadata Status → Type 0
ReadsPipeMetadata bytes = ReadsMetadata (IsPipeWith bytes) (IsPipeError bytes)
