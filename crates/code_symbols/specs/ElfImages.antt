-- ELF files as bytes: what the System V ABI says of the file header, the sections and the segments (chapter "Object Files").
use Rattle.std.specs.Prelude.{ℕ, ◌+◌, ◌==◌, Bool, List, bit_and, drop, if◌then◌else◌, length, nat_le, not}
use Rattle.perfdata_sources.specs.Endian.{number_in}
use Rattle.code_symbols.specs.declared.elf.header.FileHeader.{FileHeader}
use Rattle.code_symbols.specs.declared.elf.header.Section.{Section}
use Rattle.code_symbols.specs.declared.elf.header.Segment.{Segment}
use Rattle.code_symbols.specs.declared.elf.input.Encoding.{Encoding}
use Rattle.code_symbols.specs.declared.elf.notes.NoteRange.{NoteRange}

-- the number of `size` bytes at an offset of an entry, or 0 if they aren't completely in it
abbrev pub number_at : Encoding → List ℕ → ℕ → ℕ → ℕ
number_at e bytes at size = if nat_le (at + size) (length bytes) then number_in e.endian size (drop at bytes) else 0

-- the first value in a 32-bit file, the second in a 64-bit file
abbrev pub by_class : Encoding → ℕ → ℕ → ℕ
by_class e value_32 value_64 = if e.is_64_bit then value_64 else value_32

-- the number of four bytes in a 32-bit file, and of eight bytes in a 64-bit file
abbrev pub word_at : Encoding → List ℕ → ℕ → ℕ → ℕ
word_at e bytes at_32 at_64 = if e.is_64_bit then number_at e bytes at_64 8 else number_at e bytes at_32 4

-- the number of four bytes, at an offset in a 32-bit file and at another one in a 64-bit file
abbrev pub half_at : Encoding → List ℕ → ℕ → ℕ → ℕ
half_at e bytes at_32 at_64 = number_at e bytes (by_class e at_32 at_64) 4

-- the file header (`Elf32_Ehdr`, `Elf64_Ehdr`): `e_type`, `e_machine`, `e_flags`, both tables of headers, and `e_shstrndx`
abbrev pub header_in : Encoding → List ℕ → FileHeader
header_in e bytes = record {
  encoding = e;
  file_type = number_at e bytes 16 2;
  machine = number_at e bytes 18 2;
  flags = half_at e bytes 36 48;
  segments = record { offset = word_at e bytes 28 32; count = number_at e bytes (by_class e 44 56) 2; entry_size = number_at e bytes (by_class e 42 54) 2 };
  sections = record { offset = word_at e bytes 32 40; count = number_at e bytes (by_class e 48 60) 2; entry_size = number_at e bytes (by_class e 46 58) 2 };
  names_index = number_at e bytes (by_class e 50 62) 2;
}

-- a bit of the mask is set in these flags
abbrev pub has_flag : ℕ → ℕ → Bool
has_flag flags mask = not (bit_and flags mask == 0)

-- the section in an entry (`Elf32_Shdr`, `Elf64_Shdr`): code if `SHF_EXECINSTR` is set, and compressed if `SHF_COMPRESSED` is
abbrev pub section_in : Encoding → List ℕ → Section
section_in e bytes = record {
  name = number_at e bytes 0 4;
  section_type = number_at e bytes 4 4;
  is_code = has_flag (word_at e bytes 8 8) 4;
  is_compressed = has_flag (word_at e bytes 8 8) 0x800;
  address = word_at e bytes 12 16;
  offset = word_at e bytes 16 24;
  size = word_at e bytes 20 32;
  link = half_at e bytes 24 40;
  info = half_at e bytes 28 44;
  entry_size = word_at e bytes 36 56;
}

-- the segment in an entry (`Elf32_Phdr`, `Elf64_Phdr`): `p_offset`, `p_vaddr`, `p_memsz`, `p_filesz`, and `PF_X` of `p_flags`
abbrev pub segment_in : Encoding → List ℕ → Segment
segment_in e bytes = record {
  offset = word_at e bytes 4 8;
  address = word_at e bytes 8 16;
  memory_size = word_at e bytes 20 40;
  file_size = word_at e bytes 16 32;
  is_executable = has_flag (half_at e bytes 24 4) 1;
}

-- the notes of the segment in an entry, aligned to 8 bytes if `p_align` is 8, otherwise to 4
abbrev pub note_range_in : Encoding → List ℕ → NoteRange
note_range_in e bytes = record {
  offset = word_at e bytes 4 8;
  size = word_at e bytes 16 32;
  has_align_8 = word_at e bytes 28 48 == 8;
}
