-- What an ELF file whose headers are read contains.
use Rattle.std.specs.Prelude.{◌≡◌, ℕ, List, Option}
use Rattle.perfdata_sources.specs.declared.endian.Endianness.{Endianness}
use Rattle.code_symbols.specs.StringTable.{bytes_of}
use Rattle.code_symbols.specs.declared.elf.ElfFile.{ElfFile}
use Rattle.code_symbols.specs.declared.elf.header.FileHeader.{FileHeader}
use Rattle.code_symbols.specs.declared.elf.header.Section.{Section}
use Rattle.code_symbols.specs.declared.elf.header.Segment.{Segment}
use Rattle.code_symbols.specs.declared.elf.notes.NoteRange.{NoteRange}

-- the number of the machine
abbrev pub machine_of : {R : Type 0} → ElfFile R → ℕ
machine_of f = f.header.machine

-- the segments that are loaded into memory
abbrev pub segments_of : {R : Type 0} → ElfFile R → List Segment
segments_of f = f.segments.items

-- the order of the bytes of numbers
abbrev pub endian_of : {R : Type 0} → ElfFile R → Endianness
endian_of f = f.header.encoding.endian

-- the type of the file (`e_type`)
abbrev pub file_type_of : {R : Type 0} → ElfFile R → ℕ
file_type_of f = f.header.file_type

-- the source of the file's bytes
abbrev pub source_of : {R : Type 0} → ElfFile R → R
source_of f = f.source

-- the file header
abbrev pub header_of : {R : Type 0} → ElfFile R → FileHeader
header_of f = f.header

-- the sections, in the order of their headers
abbrev pub sections_of : {R : Type 0} → ElfFile R → List Section
sections_of f = f.sections.items

-- the string table in which the names of the sections are
abbrev pub section_names_of : {R : Type 0} → ElfFile R → List ℕ
section_names_of f = bytes_of f.section_names

-- the segment of `.eh_frame_hdr`
abbrev pub frame_header_of : {R : Type 0} → ElfFile R → Option Segment
frame_header_of f = f.frame_header

-- the ranges of notes: segments, then sections
abbrev pub notes_of : {R : Type 0} → ElfFile R → List NoteRange
notes_of f = f.notes.items

-- the headers that were read are the same, only the state of the source differs
abbrev pub HasSameHeaders : {R : Type 0} → ElfFile R → ElfFile R → Type 0
HasSameHeaders old new = new ≡ record old { source = new.source }
