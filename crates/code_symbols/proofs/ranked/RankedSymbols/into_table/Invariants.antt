use Rattle.std.proofs.Common.{◌≡◌}
use Rattle.code_symbols.specs.RankedLists.{ranked_names_of}
use Rattle.code_symbols.specs.SymbolTable.{names_of}
use Rattle.code_symbols.proofs.ranked.RankedSymbols.into_table.Given as goal

abbrev pub invariant-candidates : goal.invariant-candidates
invariant-candidates l = names_of l.table ≡ ranked_names_of l.fn.self
