-- Steps of private functions: the symbols of procedure linkage tables, by their parts.
use Rattle.std.specs.Prelude.{◌≡◌, Option}
use Rattle.code_symbols.specs.ArmPlt.{code_encoding_of}
use Rattle.code_symbols.specs.PltEntries.{AddsOfSections}
use Rattle.code_symbols.specs.StringTable.{bytes_of}
use Rattle.code_symbols.specs.declared.elf.PltParts.{PltParts}
use Rattle.code_symbols.specs.declared.elf.header.FileHeader.{FileHeader}
use Rattle.code_symbols.specs.declared.elf.header.Section.{Section}
use Rattle.code_symbols.specs.declared.elf.plt.PltContext.{PltContext}
use Rattle.code_symbols.specs.declared.ranked.RankedSymbols.{RankedSymbols}

-- symbols of two sections are appended, by these parts
pub record AddsOfParts (header : FileHeader) (parts : PltParts) (plt second : Option Section) (old new : RankedSymbols) : Type 0 where
  pub context : PltContext
  pub encoding_is : context.encoding ≡ header.encoding
  pub code_encoding_is : context.code_encoding ≡ code_encoding_of header
  pub relocations_are : context.relocations.now ≡ parts.relocations.items
  pub symbols_are : context.symbols.now ≡ parts.symbols.items
  pub names_are : bytes_of context.names.now ≡ bytes_of parts.names
  pub code_is : context.code.now ≡ parts.code.items
  pub relocation_size_is : context.relocation_size ≡ parts.relocation_size
  pub symbol_size_is : context.symbol_size ≡ parts.symbol_size
  pub adds : AddsOfSections context plt second old new
