-- The bits of an attribute's flags that clauses cite, by their numbers (`perf_event_attr` of Linux's `perf_event.h`), and which bit a flag is.
use Rattle.std.specs.Prelude.{ℕ, ◌-◌, ◌%◌, ◌^◌, ◌==◌, if◌then◌else◌}
use Rattle.std.specs.Int.{reverse_bits, w64}
use Rattle.perfdata_sources.specs.declared.endian.Endianness.{Endianness}
use Rattle.perfdata_sources.specs.declared.endian.Endianness.TheVariants.{LittleEndian, BigEndian}

abbrev pub SAMPLE_ID_ALL : ℕ
SAMPLE_ID_ALL = 18

-- The number of flags that are known, from 0 on.
abbrev pub flag_count : ℕ
flag_count = 38

-- The flags in a word, flag n as bit n. A big-endian compiler makes flag n bit 63 - n: in big-endian order the word is read so, if then a flag is set
-- and none that isn't known.
abbrev pub recorded_flags : Endianness → ℕ → ℕ
recorded_flags LittleEndian word = word
recorded_flags BigEndian word = if word == 0 then word else (if word % 2 ^ (64 - flag_count) == 0 then reverse_bits w64 word else word)
