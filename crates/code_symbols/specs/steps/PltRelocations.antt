-- The relocations of a procedure linkage table.
use Rattle.std.specs.Prelude.{All}
use Rattle.code_symbols.specs.PltEntries.{IsOfFile}
use Rattle.code_symbols.specs.declared.elf.plt.PltContext.{PltContext}
use Rattle.code_symbols.specs.declared.elf.plt.PltRelocations.{PltRelocations}

-- these relocations are of the file
pub record AreOfFile (c : PltContext) (p : PltRelocations) : Type 0 where
  pub all : All (IsOfFile c) p.all.items
  pub of_functions : All (IsOfFile c) p.of_functions.items
