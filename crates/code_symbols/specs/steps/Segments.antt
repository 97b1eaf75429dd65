-- Steps of private functions: the segments of program headers.
use Rattle.std.specs.Prelude.{◌≡◌, ℕ, List}
use Rattle.code_symbols.specs.ElfHeaders.{frame_header_in, loaded_in, segment_notes}
use Rattle.code_symbols.specs.declared.elf.header.Segments.{Segments}
use Rattle.code_symbols.specs.declared.elf.input.Encoding.{Encoding}

-- these are the segments of the program headers
pub record AreSegments (e : Encoding) (headers : List (List ℕ)) (s : Segments) : Type 0 where
  pub loaded_are : s.loaded.items ≡ loaded_in e headers
  pub frame_header_is : s.frame_header ≡ frame_header_in e headers
  pub notes_are : s.notes.items ≡ segment_notes e headers
