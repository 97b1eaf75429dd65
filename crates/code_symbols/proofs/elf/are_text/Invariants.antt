use Rattle.code_symbols.specs.StringTable.{bytes_of}
use Rattle.code_symbols.specs.SymbolTables.{AreFlagsBefore}
use Rattle.code_symbols.proofs.elf.are_text.Given as goal

abbrev pub invariant-sections : goal.invariant-sections
invariant-sections l = AreFlagsBefore (bytes_of l.names) l.sections l.flags.items l.section-index
