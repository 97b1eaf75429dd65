-- Steps of private functions: the results for a jitdump in memory: its header, its records, a load record.
use Rattle.std.specs.Prelude.{ℕ, List, Result, Ok, Err}
use Rattle.perfdata_sources.specs.declared.endian.Endianness.{Endianness}
use Rattle.perfdata_jit.specs.JitHeader.{IsJitHeader}
use Rattle.perfdata_jit.specs.declared.header.JitDumpHeader.{JitDumpHeader}
use Rattle.perfdata_arrays.specs.declared.status.Status.{Status}
use Rattle.perfdata_arrays.specs.Jit.{header_window, HasHeaderError}

-- the result of parsing the header
abbrev pub ParsesJitHeader : List ℕ → Result (JitDumpHeader × Endianness) Status → Type 0
ParsesJitHeader bytes (Ok h) = IsJitHeader h.1 (header_window bytes) h.0
ParsesJitHeader bytes (Err status) = HasHeaderError bytes status
