-- What an ELF file whose headers are read has of the bytes of its source.
use Rattle.std.specs.Prelude.{◌≡◌, ℕ, ◌++◌, List, slice_get}
use Rattle.code_symbols.specs.Contents.{contents_of_some}
use Rattle.code_symbols.specs.ElfFiles.{frame_header_of, header_of, notes_of, section_names_of, sections_of, segments_of}
use Rattle.code_symbols.specs.ElfHeaders.{HasHeader, completed, frame_header_in, loaded_in, program_headers, section_notes, sections_in, segment_notes}
use Rattle.code_symbols.specs.declared.elf.ElfFile.{ElfFile}
use Rattle.code_symbols.specs.declared.elf.header.FileHeader.{FileHeader}

-- the file has the headers of these bytes: the file header at their start, its sections with their names, and its segments
pub record OpensElf {R : Type 0} (all : List ℕ) (f : ElfFile R) : Type 0 where
  pub start : FileHeader
  pub has_header : HasHeader all start
  pub header : header_of f ≡ completed all start
  pub sections : sections_of f ≡ sections_in all (header_of f)
  pub names : section_names_of f ≡ contents_of_some all (slice_get (sections_of f) (header_of f).names_index)
  pub segments : segments_of f ≡ loaded_in (header_of f).encoding (program_headers all (header_of f))
  pub frame_header : frame_header_of f ≡ frame_header_in (header_of f).encoding (program_headers all (header_of f))
  pub notes : notes_of f ≡ segment_notes (header_of f).encoding (program_headers all (header_of f)) ++ section_notes (sections_of f)
