-- The opening of a recording in memory.
use Rattle.std.specs.Prelude.{ℕ, List, Result, Ok, Err}
use Rattle.perfdata_sources.specs.Source.{at_start}
use Rattle.linux_perf_data.specs.FileOpening.{IsFileError}
use Rattle.linux_perf_data.specs.InMemoryPositions.{ParsesFileAt}
use Rattle.linux_perf_data.specs.InMemoryReading.{ParsesPipeInMemory}
use Rattle.linux_perf_data.specs.PipeOpening.{IsPipeError}
use Rattle.linux_perf_data.specs.declared.in_memory.InMemoryReader.{InMemoryReader}
use Rattle.perfdata_arrays.specs.Records.{FailsWithStatus}
use Rattle.perfdata_arrays.specs.declared.opening.Recording.{Recording}
use Rattle.perfdata_arrays.specs.declared.opening.Recording.TheVariants.{File, Pipe}
use Rattle.perfdata_arrays.specs.declared.status.Status.{Status}

-- The recording opens, with the records of a file from a position on, or it fails with the status of an error.
abbrev pub Opens : List ℕ → Recording → Result InMemoryReader Status → Type 0
Opens bytes (File position) (Ok reader) = ParsesFileAt bytes position (Ok reader)
Opens bytes (File position) (Err status) = FailsWithStatus status (IsFileError (at_start bytes))
Opens bytes Pipe (Ok reader) = ParsesPipeInMemory bytes (Ok reader)
Opens bytes Pipe (Err status) = FailsWithStatus status (IsPipeError bytes)
