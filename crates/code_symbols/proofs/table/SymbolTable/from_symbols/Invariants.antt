use Rattle.std.proofs.Common.{◌≡◌, take}
use Rattle.code_symbols.specs.SymbolTable.{names_of, symbols_of}
use Rattle.code_symbols.proofs.table.SymbolTable.from_symbols.Given as goal

abbrev pub invariant-symbols : goal.invariant-symbols
invariant-symbols l = record {
  symbols : symbols_of l.table ≡ take l.symbol-index l.symbols;
  names : names_of l.table ≡ l.fn.names.items;
}
