-- The symbols of procedure linkage tables, by the parts of a file.
use Rattle.std.proofs.Common.{◌≡◌, List, ℕ, Option, None, Some, inl, inr, refl, sym, subst, ◌∙◌}
use Rattle.std.specs.Option.{option_and_then}
use Rattle.std.specs.Prelude.{IfSome, codes, slice_get}
use Rattle.code_symbols.specs.ArmPlt.{code_encoding_of}
use Rattle.code_symbols.specs.Contents.{contents_of, contents_of_some}
use Rattle.code_symbols.specs.ElfFiles.{header_of, section_names_of, sections_of}
use Rattle.code_symbols.specs.PltEntries.{AddsOfSection, AddsOfSections}
use Rattle.code_symbols.specs.PltSymbols.{AddsPltSymbols, IsArmCode, IsCodeOfName, IsRelocationSection, only_symbols}
use Rattle.code_symbols.specs.StringTable.{bytes_of}
use Rattle.code_symbols.specs.steps.PltFiles.{ArePltParts}
use Rattle.code_symbols.specs.steps.PltParts.{AddsOfParts}
use Rattle.code_symbols.specs.declared.elf.ElfFile.{ElfFile}
use Rattle.code_symbols.specs.declared.elf.PltParts.{PltParts}
use Rattle.code_symbols.specs.declared.elf.header.FileHeader.{FileHeader}
use Rattle.code_symbols.specs.declared.elf.header.Section.{Section}
use Rattle.code_symbols.specs.declared.elf.plt.PltContext.{PltContext}
use Rattle.code_symbols.specs.declared.ranked.RankedSymbols.{RankedSymbols}

-- no symbols are appended
pub adds_none : (c : PltContext) (section : Option Section) (symbols : RankedSymbols) → AddsOfSection c section symbols symbols
adds_none c None symbols = refl
adds_none c (Some section) symbols = inl refl

-- symbols that are appended by a context are appended by its parts
pub parts_add : (context : PltContext) (header : FileHeader) (parts : PltParts) (plt second : Option Section) (old new : RankedSymbols) → context.encoding ≡ header.encoding
    → context.code_encoding ≡ code_encoding_of header → context.relocations.now ≡ parts.relocations.items → context.symbols.now ≡ parts.symbols.items
    → bytes_of context.names.now ≡ bytes_of parts.names → context.code.now ≡ parts.code.items → context.relocation_size ≡ parts.relocation_size
    → context.symbol_size ≡ parts.symbol_size → AddsOfSections context plt second old new → AddsOfParts header parts plt second old new
parts_add context header parts plt second old new encoding code_encoding relocations symbols names code relocation_size symbol_size adds = record {
  context = context;
  encoding_is = encoding;
  code_encoding_is = code_encoding;
  relocations_are = relocations;
  symbols_are = symbols;
  names_are = names;
  code_is = code;
  relocation_size_is = relocation_size;
  symbol_size_is = symbol_size;
  adds = adds;
}

module _ {R : Type 0} (f : ElfFile R) where
  -- the parts that were read
  pub parts_of_file : (image : Option (List ℕ)) (section dynamic : Section) (p : PltParts) → IsRelocationSection (section_names_of f) (sections_of f) (Some section)
      → option_and_then only_symbols (slice_get (sections_of f) section.link) ≡ Some dynamic → IfSome image (λ all. p.relocations.items ≡ contents_of all section)
      → IfSome image (λ all. p.symbols.items ≡ contents_of all dynamic) → IfSome image (λ all. bytes_of p.names ≡ contents_of_some all (slice_get (sections_of f) dynamic.link))
      → IfSome image (λ all. IsArmCode all f p.code.items) → p.relocation_size ≡ section.entry_size → p.symbol_size ≡ dynamic.entry_size → IfSome image (λ all. ArePltParts all f p)
  parts_of_file None section dynamic p is_section is_dynamic relocations symbols names code relocation_size symbol_size = tt
  parts_of_file (Some all) section dynamic p is_section is_dynamic relocations symbols names code relocation_size symbol_size = record {
    section = section;
    dynamic = dynamic;
    is_section = is_section;
    is_dynamic = is_dynamic;
    relocations_are = relocations;
    symbols_are = symbols;
    names_are = names;
    code_is = code;
    relocation_size_is = relocation_size;
    symbol_size_is = symbol_size;
  }

  -- the symbols by these parts are those of the file
  pub plt_of_file : (image : Option (List ℕ)) (header : FileHeader) (parts : PltParts) (plt second : Option Section) (old new : RankedSymbols) → header ≡ header_of f
      → IfSome image (λ all. ArePltParts all f parts) → IsCodeOfName (section_names_of f) (sections_of f) (codes ".plt") plt
      → IsCodeOfName (section_names_of f) (sections_of f) (codes ".plt.sec") second → AddsOfParts header parts plt second old new
      → IfSome image (λ all. AddsPltSymbols all f old new)
  plt_of_file None header parts plt second old new header_is are is_plt is_second adds = tt
  plt_of_file (Some all) header parts plt second old new header_is are is_plt is_second adds = inr (record {
    context = adds.context;
    encoding_is = adds.encoding_is ∙ (λ i. (header_is i).encoding);
    code_encoding_is = adds.code_encoding_is ∙ (λ i. code_encoding_of (header_is i));
    bytes_are = record {
      section = are.section;
      dynamic = are.dynamic;
      is_section = are.is_section;
      is_dynamic = are.is_dynamic;
      relocations_are = adds.relocations_are ∙ are.relocations_are;
      symbols_are = adds.symbols_are ∙ are.symbols_are;
      names_are = adds.names_are ∙ are.names_are;
      code_is = subst (IsArmCode all f) (sym adds.code_is) are.code_is;
      relocation_size_is = adds.relocation_size_is ∙ are.relocation_size_is;
      symbol_size_is = adds.symbol_size_is ∙ are.symbol_size_is;
    };
    plt = plt;
    second = second;
    is_plt = is_plt;
    is_second = is_second;
    adds = adds.adds;
  })

  -- a file with the same headers has the same code of a name
  pub same_code : (names : List ℕ) (sections : List Section) (name : List ℕ) (code : Option Section) → names ≡ section_names_of f → sections ≡ sections_of f
      → IsCodeOfName names sections name code → IsCodeOfName (section_names_of f) (sections_of f) name code
  same_code names sections name code names_are sections_are is =
      subst (λ ss. IsCodeOfName (section_names_of f) ss name code) sections_are (subst (λ ns. IsCodeOfName ns sections name code) names_are is)
