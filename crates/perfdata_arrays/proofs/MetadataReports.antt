-- What calls report of the metadata of a recording.
use Rattle.std.proofs.Common.{ℕ, List, inl, inr, Result, Ok, Err}
use Rattle.perfdata_sources.specs.Source.{at_start}
use Rattle.perfdata_sections.specs.declared.error.Error.{Error}
use Rattle.linux_perf_data.specs.FileOpening.{IsFileError}
use Rattle.linux_perf_data.specs.PipeOpening.{IsPipeError}
use Rattle.linux_perf_data.specs.declared.perf_file.PerfFile.{PerfFile}
use Rattle.perfdata_arrays.specs.Metadata.{IsFileWith, IsPipeWith, Reports, ReportsFile, ReportsPipe}
use Rattle.perfdata_arrays.specs.steps.Metadata.{ReadsFileMetadata, ReadsMetadata, ReadsPipeMetadata, ReportsOf}
use Rattle.perfdata_arrays.specs.declared.metadata.Metadata.{Metadata}
use Rattle.perfdata_arrays.specs.declared.status.Status.{Status}

reports : (IsWith : PerfFile → Status → Type 0) (IsError : Error → Type 0) (OfMetadata : PerfFile → Status → Type 0) (OfError : Status → Type 0) (read : Result Metadata Status) → ReadsMetadata IsWith IsError read → ReportsOf OfMetadata OfError read → Reports IsWith IsError OfMetadata OfError
reports IsWith IsError OfMetadata OfError (Ok m) is of = inl (m.perf_file, (m.status, is, of))
reports IsWith IsError OfMetadata OfError (Err status) is of = inr (status, is, of)

module _ (bytes : List ℕ) (OfMetadata : PerfFile → Status → Type 0) (OfError : Status → Type 0) where
  pub reports_file : (read : Result Metadata Status) → ReadsFileMetadata bytes read → ReportsOf OfMetadata OfError read → ReportsFile bytes OfMetadata OfError
  reports_file = reports (IsFileWith bytes) (IsFileError (at_start bytes)) OfMetadata OfError

  pub reports_pipe : (read : Result Metadata Status) → ReadsPipeMetadata bytes read → ReportsOf OfMetadata OfError read → ReportsPipe bytes OfMetadata OfError
  reports_pipe = reports (IsPipeWith bytes) (IsPipeError bytes) OfMetadata OfError
