use Rattle.std.proofs.Common.{take}
use Rattle.std.specs.Prelude.{All}
use Rattle.code_symbols.specs.SymbolTable.{names_of}
use Rattle.code_symbols.specs.Symbols.{IsName}
use Rattle.code_symbols.proofs.kallsyms.symbol_address.Given as goal

abbrev pub invariant-symbols : goal.invariant-symbols
invariant-symbols l = All (λ s. ¬ IsName (names_of l.table) s l.name) (take l.symbol-index l.symbol-items)
