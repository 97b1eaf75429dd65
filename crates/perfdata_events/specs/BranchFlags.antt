-- The flags of a branch of Linux's `perf_event.h`: { u64 mispred:1, predicted:1, in_tx:1, abort:1, cycles:16, type:4, spec:2, new_type:4,
-- priv:3, reserved:31; }. A little-endian compiler lays out these fields from the lowest bit to the highest one, and a big-endian compiler
-- from the highest bit to the lowest one. The numbers in the fields have the same order of bits in both.
use Rattle.std.specs.Prelude.{ℕ, ◌+◌, ◌*◌, ◌/◌, ◌%◌, ◌^◌}
use Rattle.perfdata_sources.specs.declared.endian.Endianness.{Endianness}
use Rattle.perfdata_sources.specs.declared.endian.Endianness.TheVariants.{LittleEndian, BigEndian}

-- The flags of a word of a record in a byte order, laid out from the lowest bit.
abbrev pub branch_flags_in : Endianness → ℕ → ℕ
branch_flags_in LittleEndian word = word
branch_flags_in BigEndian word =
    word / 2 ^ 63 + 2 * (word / 2 ^ 62 % 2) + 2 ^ 2 * (word / 2 ^ 61 % 2) + 2 ^ 3 * (word / 2 ^ 60 % 2)
    + 2 ^ 4 * (word / 2 ^ 44 % 2 ^ 16) + 2 ^ 20 * (word / 2 ^ 40 % 2 ^ 4) + 2 ^ 24 * (word / 2 ^ 38 % 2 ^ 2)
    + 2 ^ 26 * (word / 2 ^ 34 % 2 ^ 4) + 2 ^ 30 * (word / 2 ^ 31 % 2 ^ 3) + 2 ^ 33 * (word % 2 ^ 31)
