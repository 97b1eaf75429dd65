-- Steps of private functions: the symbols of a table, by its parts.
use Rattle.std.specs.Prelude.{◌≡◌, ℕ, List, []}
use Rattle.code_symbols.specs.ElfSymbols.{AddsAll}
use Rattle.code_symbols.specs.RankedLists.{ranked_names_of, ranked_symbols_of}
use Rattle.code_symbols.specs.StringTable.{bytes_of}
use Rattle.code_symbols.specs.declared.elf.TableParts.{TableParts}
use Rattle.code_symbols.specs.declared.elf.header.FileHeader.{FileHeader}
use Rattle.code_symbols.specs.declared.elf.header.Section.{Section}
use Rattle.code_symbols.specs.declared.elf.header.Segment.{Segment}
use Rattle.code_symbols.specs.declared.elf.symbols.SymbolContext.{SymbolContext}
use Rattle.code_symbols.specs.declared.ranked.RankedSymbols.{RankedSymbols}

-- these are the symbols of all entries of the table, by these parts
pub record AreSymbolsOfParts (header : FileHeader) (sections : List Section) (segments : List Segment) (entry_size : ℕ)
    (parts : TableParts) (r : RankedSymbols) : Type 0 where
  pub context : SymbolContext
  pub header_is : context.header ≡ header
  pub sections_are : context.sections.now ≡ sections
  pub segments_are : context.segments.now ≡ segments
  pub text_is : context.text_sections.now ≡ parts.text_sections.items
  pub indices_are : context.section_indices.now ≡ parts.section_indices.items
  pub versions_are : context.versions.now ≡ parts.versions.items
  pub names_are : bytes_of context.names.now ≡ bytes_of parts.names
  pub adds : AddsAll context parts.entries.items entry_size [] (ranked_symbols_of r)
  pub names : ranked_names_of r ≡ bytes_of parts.names
