-- The header of a perf.data file as its bytes describe it (`perf_file_header`).
use Rattle.std.specs.Prelude.{◌≡◌, ◌≢◌, ℕ, ◌+◌, ◌-◌, ◌^◌, ◌<◌, ◌≤◌, ◌==◌, ◌⊎◌, List, [], ◌∷◌, length, take, drop, slice_index, max, if◌then◌else◌, codes, Option, Result, Ok, Err}
use Rattle.std.specs.IoError.{error_kind}
use Rattle.std.specs.declared.io.Error.{Error}
use Rattle.std.specs.declared.io.ErrorKind.TheVariants.{InvalidInput}
use Rattle.perfdata_sources.specs.Source.{State, prepend, advance_by, Consumed, AfterSeek, SourceFailed, ReadExactError}
use Rattle.perfdata_sources.specs.Endian.{number_in}
use Rattle.perfdata_base.specs.Section.{section_entry_of}
use Rattle.perfdata_sources.specs.declared.endian.Endianness.{Endianness}
use Rattle.perfdata_sources.specs.declared.endian.Endianness.TheVariants.{LittleEndian, BigEndian}
use Rattle.perfdata_base.specs.declared.header.PerfHeader.{PerfHeader}

-- the magic of a file or pipe in this byte order
abbrev pub magic_of : Endianness → List ℕ
magic_of LittleEndian = codes "PERFILE2"
magic_of BigEndian = codes "2ELIFREP"

-- the magic of no byte order
abbrev pub IsUnknownMagic : List ℕ → Type 0
IsUnknownMagic bytes = (endian : Endianness) → bytes ≢ magic_of endian

-- the byte order of a file, by the first byte of its magic: little-endian if it is `P`
abbrev pub endian_by_first_byte : List ℕ → Endianness
endian_by_first_byte xs = if slice_index xs 0 == 80 then LittleEndian else BigEndian

-- the header in 104 bytes, with a function that parses their numbers
abbrev pub file_header_in : (ℕ → List ℕ → ℕ) → List ℕ → PerfHeader
file_header_in number xs = record {
  magic = take 8 xs;
  header_size = number 8 (drop 8 xs);
  attr_size = number 8 (drop 16 xs);
  attr_section = section_entry_of number (drop 24 xs);
  data_section = section_entry_of number (drop 40 xs);
  event_types_section = section_entry_of number (drop 56 xs);
  features = record { 0 = number 8 (drop 72 xs) ∷ number 8 (drop 80 xs) ∷ number 8 (drop 88 xs) ∷ number 8 (drop 96 xs) ∷ [] };
}

abbrev pub file_header_of : List ℕ → PerfHeader
file_header_of xs = file_header_in (number_in (endian_by_first_byte xs)) xs

-- the first 104 remaining bytes contain this header
pub record BeginsWithFileHeader (old : State) (h : PerfHeader) : Type 0 where
  pub bytes : List ℕ
  pub rest : Option (List ℕ)
  pub exact_len : length bytes ≡ 104
  pub prefix_of_remaining : old.bytes ≡ prepend bytes rest
  pub matches : h ≡ file_header_of bytes

-- A header was parsed, and the source advanced by 104 bytes, or by the size in the header if that is more.
pub record FileHeaderParsed (old : State) (h : PerfHeader) (new : State) : Type 0 where
  pub file_header : BeginsWithFileHeader old h
  pub extra_fits : h.header_size < 104 + 2 ^ 63
  pub after_seek : AfterSeek old new
  pub position : new.position ≡ advance_by (max 104 h.header_size) old.position

-- The bytes of a header after the first 104 weren't skipped. They are 2^63 or more, and the position is after the first 104; or
-- the source failed.
pub record ExtraSkipError (old : State) (e : Error) (new : State) : Type 0 where
  pub header : PerfHeader
  pub file_header : BeginsWithFileHeader old header
  pub has_extra : 104 < header.header_size
  pub cause : ((104 + 2 ^ 63 ≤ header.header_size) × (error_kind e ≡ InvalidInput) × Consumed old file_header.bytes new)
      ⊎ ((header.header_size < 104 + 2 ^ 63) × SourceFailed old new)

-- no header was parsed: fewer than 104 bytes were read, or the later bytes weren't skipped
pub record FileHeaderParseError (old : State) (e : Error) (new : State) : Type 0 where
  pub after_seek : AfterSeek old new
  pub cause : ReadExactError old 104 e new ⊎ ExtraSkipError old e new

-- the effect of parsing a header on the source
abbrev pub ParsesFileHeader : State → Result PerfHeader Error → State → Type 0
ParsesFileHeader old (Ok h) new = FileHeaderParsed old h new
ParsesFileHeader old (Err e) new = FileHeaderParseError old e new
