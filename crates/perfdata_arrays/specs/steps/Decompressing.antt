-- Steps of private functions: how the records of an input end.
use Rattle.std.specs.Prelude.{List, ℕ, Result, Ok, Err}
use Rattle.perfdata_sources.specs.Source.{at_start}
use Rattle.linux_perf_data.specs.FileOpening.{IsFileError}
use Rattle.linux_perf_data.specs.PipeOpening.{IsPipeError}
use Rattle.perfdata_arrays.specs.Decompressing.{FileEnds, PipeEnds, WritesPlain}
use Rattle.perfdata_arrays.specs.declared.decompressing.DecompressResult.{DecompressResult}
use Rattle.perfdata_arrays.specs.Records.{FailsWithStatus}
use Rattle.perfdata_arrays.specs.declared.opening.Recording.{Recording}
use Rattle.perfdata_arrays.specs.declared.opening.Recording.TheVariants.{File, Pipe}
use Rattle.perfdata_arrays.specs.declared.status.Status.{Status}

-- The records end with this status, or the recording doesn't open.
abbrev pub ReadsToEnd : List ℕ → Recording → Result Status Status → Type 0
ReadsToEnd bytes (File from) (Ok status) = FileEnds bytes from status
ReadsToEnd bytes (File from) (Err status) = FailsWithStatus status (IsFileError (at_start bytes))
ReadsToEnd bytes Pipe (Ok status) = PipeEnds bytes status
ReadsToEnd bytes Pipe (Err status) = FailsWithStatus status (IsPipeError bytes)

-- The recording is written as it is, unless a record is compressed.
abbrev pub WritesPlainRecording : List ℕ → Recording → List ℕ → DecompressResult → List ℕ → Type 0
WritesPlainRecording bytes (File from) old result new = WritesPlain bytes old result new (FileEnds bytes from) (IsFileError (at_start bytes))
WritesPlainRecording bytes Pipe old result new = WritesPlain bytes old result new (PipeEnds bytes) (IsPipeError bytes)
