-- The headers of an ELF file with these bytes: its class and byte order, and the tables of section headers and program headers.
use Rattle.std.specs.Prelude.{◌≡◌, ◌≤◌, ℕ, zero, suc, ◌+◌, ◌*◌, ◌==◌, Bool, false, List, [], ◌∷◌, ◌++◌, Option, filter, find, if◌then◌else◌, length, map, slice_index, slice_range, take}
use Rattle.std.specs.Option.{option_map}
use Rattle.perfdata_sources.specs.declared.endian.Endianness.{Endianness}
use Rattle.perfdata_sources.specs.declared.endian.Endianness.TheVariants.{BigEndian, LittleEndian}
use Rattle.code_symbols.specs.ElfImages.{by_class, header_in, note_range_in, number_at, section_in, segment_in}
use Rattle.code_symbols.specs.declared.elf.header.FileHeader.{FileHeader}
use Rattle.code_symbols.specs.declared.elf.header.Section.{Section}
use Rattle.code_symbols.specs.declared.elf.header.Segment.{Segment}
use Rattle.code_symbols.specs.declared.elf.header.Table.{Table}
use Rattle.code_symbols.specs.declared.elf.input.Encoding.{Encoding}
use Rattle.code_symbols.specs.declared.elf.notes.NoteRange.{NoteRange}

-- the byte for a byte order (`ELFDATA2LSB`, `ELFDATA2MSB`)
abbrev pub order_byte : Endianness → ℕ
order_byte LittleEndian = 1
order_byte BigEndian = 2

-- the bytes start with the magic
abbrev pub HasMagic : List ℕ → Type 0
HasMagic bytes = take 4 bytes ≡ 127 ∷ 69 ∷ 76 ∷ 70 ∷ []

-- the bytes start with the magic, the class and the byte order
pub record HasEncoding (bytes : List ℕ) (e : Encoding) : Type 0 where
  pub magic : HasMagic bytes
  pub class : slice_index bytes 4 ≡ by_class e 1 2
  pub order : slice_index bytes 5 ≡ order_byte e.endian

-- the bytes start with this file header
pub record HasHeader (bytes : List ℕ) (h : FileHeader) : Type 0 where
  pub encoding : HasEncoding bytes h.encoding
  pub complete : by_class h.encoding 52 64 ≤ length bytes
  pub is : h ≡ header_in h.encoding bytes

-- the first `n` entries of a table, each of `size` bytes
abbrev pub first_entries : List ℕ → ℕ → ℕ → List (List ℕ)
first_entries table size zero = []
first_entries table size (suc n) = first_entries table size n ++ slice_range table (n * size) (n * size + size) ∷ []

-- the bytes of a table of headers
abbrev pub table_bytes : List ℕ → Table → List ℕ
table_bytes all t = slice_range all t.offset (t.offset + t.count * t.entry_size)

-- the entries of a table of headers
abbrev pub entries_of : List ℕ → Table → List (List ℕ)
entries_of all t = first_entries (table_bytes all t) t.entry_size t.count

-- the first section header
abbrev pub first_section : List ℕ → FileHeader → Section
first_section all h = section_in h.encoding (table_bytes all (record h.sections { count = 1 }))

-- the counts and the index that don't fit into the file header are in the first section header: `sh_size`, `sh_info`, `sh_link`
abbrev pub with_first_section : FileHeader → Section → FileHeader
with_first_section h s = record h {
  sections = record h.sections { count = if h.sections.count == 0 then s.size else h.sections.count };
  segments = record h.segments { count = if h.segments.count == 0xffff then s.info else h.segments.count };
  names_index = if h.names_index == 0xffff then s.link else h.names_index;
}

-- the file header with these, if the file has section headers
abbrev pub completed : List ℕ → FileHeader → FileHeader
completed all h = if h.sections.offset == 0 then h else with_first_section h (first_section all h)

-- the sections, in the order of their headers
abbrev pub sections_in : List ℕ → FileHeader → List Section
sections_in all h = if h.sections.offset == 0 then [] else map (section_in h.encoding) (entries_of all h.sections)

-- the program headers
abbrev pub program_headers : List ℕ → FileHeader → List (List ℕ)
program_headers all h = if h.segments.offset == 0 then [] else entries_of all h.segments

-- the program header has this type (`p_type`)
abbrev pub has_type : Encoding → ℕ → List ℕ → Bool
has_type e segment_type bytes = number_at e bytes 0 4 == segment_type

-- the segments that are loaded (`PT_LOAD`)
abbrev pub loaded_in : Encoding → List (List ℕ) → List Segment
loaded_in e headers = map (segment_in e) (filter (has_type e 1) headers)

-- the segment of `.eh_frame_hdr`, the first one of `PT_GNU_EH_FRAME`
abbrev pub frame_header_in : Encoding → List (List ℕ) → Option Segment
frame_header_in e headers = option_map (segment_in e) (find (has_type e 0x6474e550) headers)

-- the segments of notes (`PT_NOTE`)
abbrev pub segment_notes : Encoding → List (List ℕ) → List NoteRange
segment_notes e headers = map (note_range_in e) (filter (has_type e 4) headers)

-- the notes in a section, which are aligned to four bytes
abbrev pub notes_of_section : Section → NoteRange
notes_of_section s = record { offset = s.offset; size = s.size; has_align_8 = false }

-- the sections of notes (`SHT_NOTE`)
abbrev pub section_notes : List Section → List NoteRange
section_notes sections = map notes_of_section (filter (λ s. s.section_type == 7) sections)
