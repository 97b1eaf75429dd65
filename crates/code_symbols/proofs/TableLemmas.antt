-- The symbols of the table that is read.
use Rattle.std.proofs.Common.{◌≡◌, ℕ, List, [], Option, Some, None, Result, Ok, Err, sym, subst, ◌∙◌}
use Rattle.std.specs.Prelude.{IfOk, IfSome, slice_get}
use Rattle.code_symbols.specs.Contents.{contents_of, contents_of_some}
use Rattle.code_symbols.specs.ElfFiles.{header_of, section_names_of, sections_of}
use Rattle.code_symbols.specs.ElfSymbols.{AddsAll}
use Rattle.code_symbols.specs.RankedLists.{ranked_names_of, ranked_symbols_of}
use Rattle.code_symbols.specs.StringTable.{bytes_of}
use Rattle.code_symbols.specs.SymbolTables.{AreSymbolsOfTable, AreTextFlags, SymbolsOf, linked_section, table_index}
use Rattle.code_symbols.specs.steps.SymbolTables.{AreSymbolsOfParts}
use Rattle.code_symbols.specs.declared.elf.ElfFile.{ElfFile}
use Rattle.code_symbols.specs.declared.elf.TableParts.{TableParts}
use Rattle.code_symbols.specs.declared.elf.header.FileHeader.{FileHeader}
use Rattle.code_symbols.specs.declared.elf.header.Section.{Section}
use Rattle.code_symbols.specs.declared.elf.header.Segment.{Segment}
use Rattle.code_symbols.specs.declared.elf.symbols.SymbolContext.{SymbolContext}
use Rattle.code_symbols.specs.declared.ranked.RankedSymbol.{RankedSymbol}
use Rattle.code_symbols.specs.declared.ranked.RankedSymbols.{RankedSymbols}

-- the symbols that a context gives are those of its parts
pub of_context : (context : SymbolContext) (header : FileHeader) (sections : List Section) (segments : List Segment) (entry_size : ℕ) (entries : List ℕ) (old : List RankedSymbol)
    (parts : TableParts) (r : RankedSymbols) → AddsAll context entries entry_size old (ranked_symbols_of r) → old ≡ [] → entries ≡ parts.entries.items
    → context.header ≡ header → context.sections.now ≡ sections → context.segments.now ≡ segments → context.text_sections.now ≡ parts.text_sections.items
    → context.section_indices.now ≡ parts.section_indices.items → context.versions.now ≡ parts.versions.items → bytes_of context.names.now ≡ bytes_of parts.names
    → ranked_names_of r ≡ bytes_of parts.names → AreSymbolsOfParts header sections segments entry_size parts r
of_context context header sections segments entry_size entries old parts r adds none entries_are header_is sections_are segments_are text_is indices_are versions_are names_are names = record {
  context = context;
  header_is = header_is;
  sections_are = sections_are;
  segments_are = segments_are;
  text_is = text_is;
  indices_are = indices_are;
  versions_are = versions_are;
  names_are = names_are;
  adds = subst (λ e. AddsAll context e entry_size [] (ranked_symbols_of r)) entries_are (subst (λ o. AddsAll context entries entry_size o (ranked_symbols_of r)) none adds);
  names = names;
}

module _ {R : Type 0} (f : ElfFile R) (segments : List Segment) (index : ℕ) (table : Section) (parts : TableParts) where
  -- the symbols by the parts that were read are those of the file
  pub symbols_of_file : (r : RankedSymbols) (image : Option (List ℕ)) → table_index (sections_of f) ≡ Some index → slice_get (sections_of f) index ≡ Some table
      → IfSome image (λ all. parts.entries.items ≡ contents_of all table)
      → IfSome image (λ all. parts.section_indices.items ≡ contents_of_some all (linked_section (sections_of f) 18 index))
      → IfSome image (λ all. parts.versions.items ≡ contents_of_some all (linked_section (sections_of f) 0x6fffffff index))
      → IfSome image (λ all. bytes_of parts.names ≡ contents_of_some all (slice_get (sections_of f) table.link))
      → AreTextFlags (section_names_of f) (sections_of f) parts.text_sections.items
      → AreSymbolsOfParts (header_of f) (sections_of f) segments table.entry_size parts r → IfSome image (λ all. SymbolsOf all f segments r)
  symbols_of_file r None index_is table_is entries indices versions names text p = tt
  symbols_of_file r (Some all) index_is table_is entries indices versions names text p =
      let symbols : AreSymbolsOfTable all f segments index table r = record {
        context = p.context;
        is_context = record {
          header_is = p.header_is;
          sections_are = p.sections_are;
          text = subst (AreTextFlags (section_names_of f) (sections_of f)) (sym p.text_is) text;
          indices_are = p.indices_are ∙ indices;
          versions_are = p.versions_are ∙ versions;
          segments_are = p.segments_are;
          names_are = p.names_are ∙ names;
        };
        adds = subst (λ e. AddsAll p.context e table.entry_size [] (ranked_symbols_of r)) entries p.adds;
        names = p.names ∙ names;
      } in
      rw (index_is, table_is) symbols

  -- the same of a result, whose headers are those of the file
  pub result_of_file : {E : Type 0} → (image : Option (List ℕ)) (header : FileHeader) (sections : List Section) (result : Result RankedSymbols E) → header ≡ header_of f → sections ≡ sections_of f
      → table_index (sections_of f) ≡ Some index → slice_get (sections_of f) index ≡ Some table
      → IfSome image (λ all. parts.entries.items ≡ contents_of all table)
      → IfSome image (λ all. parts.section_indices.items ≡ contents_of_some all (linked_section (sections_of f) 18 index))
      → IfSome image (λ all. parts.versions.items ≡ contents_of_some all (linked_section (sections_of f) 0x6fffffff index))
      → IfSome image (λ all. bytes_of parts.names ≡ contents_of_some all (slice_get (sections_of f) table.link))
      → AreTextFlags (section_names_of f) (sections_of f) parts.text_sections.items
      → IfOk result (AreSymbolsOfParts header sections segments table.entry_size parts) → IfOk result (λ r. IfSome image (λ all. SymbolsOf all f segments r))
  result_of_file image header sections (Err e) header_is sections_are index_is table_is entries indices versions names text p = tt
  result_of_file image header sections (Ok r) header_is sections_are index_is table_is entries indices versions names text p =
      symbols_of_file r image index_is table_is entries indices versions names text
      (subst (λ h. AreSymbolsOfParts h (sections_of f) segments table.entry_size parts r) header_is
      (subst (λ s. AreSymbolsOfParts header s segments table.entry_size parts r) sections_are p))
