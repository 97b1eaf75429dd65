-- The kind of an input by its first bytes: the magic of a jitdump in 4 bytes, or the magic of perf in 8 bytes and the size of
-- the header in the next 8. The header of a perf.data file has at least 104 bytes, that of a pipe fewer (perf writes 16).
use Rattle.std.specs.Prelude.{◌≡◌, ℕ, ◌<◌, ◌≤◌, List, length, take, drop, Option, None, Some}
use Rattle.perfdata_sources.specs.Endian.{number_in}
use Rattle.perfdata_base.specs.Header.{magic_of}
use Rattle.perfdata_sources.specs.declared.endian.Endianness.{Endianness}
use Rattle.perfdata_jit.specs.JitHeader.{jit_magic_of}
use Rattle.linux_perf_data.specs.declared.input_kind.InputKind.{InputKind}
use Rattle.linux_perf_data.specs.declared.input_kind.InputKind.TheVariants.{File, Pipe, JitDump}

-- The bytes start with the magic of a jitdump.
pub record StartsWithJitMagic (bytes : List ℕ) : Type 0 where
  pub complete : 4 ≤ length bytes
  pub order : Endianness
  pub magic : take 4 bytes ≡ jit_magic_of order

-- The bytes start with the magic of perf, and with a header of this size.
pub record StartsWithPerfHeader (bytes : List ℕ) (size : ℕ) : Type 0 where
  pub complete : 16 ≤ length bytes
  pub order : Endianness
  pub magic : take 8 bytes ≡ magic_of order
  pub header_size : size ≡ number_in order 8 (drop 8 bytes)

-- The bytes start an input of this kind, or of no kind that is known.
abbrev pub IsKindOfStart : List ℕ → Option InputKind → Type 0
IsKindOfStart bytes (Some JitDump) = StartsWithJitMagic bytes
IsKindOfStart bytes (Some Pipe) = (size : ℕ) × StartsWithPerfHeader bytes size × (size < 104)
IsKindOfStart bytes (Some File) = (size : ℕ) × StartsWithPerfHeader bytes size × (104 ≤ size)
IsKindOfStart bytes None = (¬ StartsWithJitMagic bytes) × ((size : ℕ) → ¬ StartsWithPerfHeader bytes size)
