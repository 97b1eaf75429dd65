-- Steps of private functions: the parts of procedure linkage tables, in a file.
use Rattle.std.specs.Prelude.{ℕ, List}
use Rattle.code_symbols.specs.PltSymbols.{ArePltBytes}
use Rattle.code_symbols.specs.StringTable.{bytes_of}
use Rattle.code_symbols.specs.declared.elf.ElfFile.{ElfFile}
use Rattle.code_symbols.specs.declared.elf.PltParts.{PltParts}

-- these are the parts in a file with these bytes
abbrev pub ArePltParts : {R : Type 0} → List ℕ → ElfFile R → PltParts → Type 0
ArePltParts all f p = ArePltBytes all f p.relocations.items p.symbols.items (bytes_of p.names) p.code.items p.relocation_size p.symbol_size
