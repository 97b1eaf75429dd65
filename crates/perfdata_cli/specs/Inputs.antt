-- The inputs of the programs.
use Rattle.std.specs.Prelude.{◌≡◌, List, ℕ, Bool, true, false, Option, None, Some, Result, Ok, Err}
use Rattle.linux_perf_data.specs.InMemoryReading.{ParsesFileInMemory, ParsesPipeInMemory}
use Rattle.linux_perf_data.specs.declared.in_memory.InMemoryReader.{InMemoryReader}
use Rattle.linux_perf_data.specs.declared.input_kind.InputKind.{InputKind}
use Rattle.linux_perf_data.specs.declared.input_kind.InputKind.TheVariants.{File, Pipe, JitDump}
use Rattle.perfdata_cli.specs.declared.error.InputError.{InputError}
use Rattle.perfdata_cli.specs.declared.input_bytes.InputBytes.{InputBytes}
use Rattle.perfdata_cli.specs.declared.input_bytes.InputBytes.TheVariants as input
use Rattle.perfdata_cli.specs.declared.error.InputError.TheVariants.{UnknownFormat, Metadata}
use Rattle.perfdata_cli.specs.declared.error.InputError.TheVariants as failure

-- Whether an input of this kind is a pipe; a jitdump and an input of no known kind are none of both.
abbrev pub IsPipe : Option InputKind → Result Bool InputError → Type 0
IsPipe (Some File) result = result ≡ Ok false
IsPipe (Some Pipe) result = result ≡ Ok true
IsPipe (Some JitDump) result = result ≡ Err failure.JitDump
IsPipe None result = result ≡ Err UnknownFormat

-- A file or a pipe was opened in memory, or its metadata has the error.
abbrev pub OpensInMemory : List ℕ → Bool → Result InMemoryReader InputError → Type 0
OpensInMemory bytes false (Ok reader) = ParsesFileInMemory bytes (Ok reader)
OpensInMemory bytes false (Err (Metadata error)) = ParsesFileInMemory bytes (Err error)
OpensInMemory bytes true (Ok reader) = ParsesPipeInMemory bytes (Ok reader)
OpensInMemory bytes true (Err (Metadata error)) = ParsesPipeInMemory bytes (Err error)
OpensInMemory bytes is_pipe (Err _) = ⊥

-- The bytes aren't those of a file with compressed records.
abbrev pub IsNoCompressedFile : InputBytes → Type 0
IsNoCompressedFile (input.Raw _) = Unit {0}
IsNoCompressedFile (input.Pipe _) = Unit {0}
IsNoCompressedFile (input.File _) = ⊥
