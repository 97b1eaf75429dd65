use Rattle.code_symbols.specs.PltEntries.{AddsPlt}
use Rattle.code_symbols.proofs.elf.plt.add_entries.Given as goal

abbrev pub invariant-relocations : goal.invariant-relocations
invariant-relocations l = AddsPlt l.context l.section l.entries l.relocations l.fn.symbols l.symbols
