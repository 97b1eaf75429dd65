-- Numbers in a byte order.
use Rattle.std.specs.Prelude.{ℕ, List}
use Rattle.byteorder.specs.Endian.{big_number, little_number}
use Rattle.perfdata_sources.specs.declared.endian.Endianness.{Endianness}
use Rattle.perfdata_sources.specs.declared.endian.Endianness.TheVariants.{LittleEndian, BigEndian}

-- The number in the first n bytes of a list: the sum of each byte times 256 to the power of its index, which counts from the
-- first byte (little-endian) or from the last (big-endian).
abbrev pub number_in : Endianness → ℕ → List ℕ → ℕ
number_in LittleEndian n xs = little_number n xs
number_in BigEndian n xs = big_number n xs
