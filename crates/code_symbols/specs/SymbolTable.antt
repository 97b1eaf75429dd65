-- What a table contains.
use Rattle.std.specs.Prelude.{ℕ, List, length}
use Rattle.code_symbols.specs.declared.symbol.Symbol.{Symbol}
use Rattle.code_symbols.specs.declared.table.SymbolTable.{SymbolTable}

-- the symbols, in the order in which they were pushed
abbrev pub symbols_of : SymbolTable → List Symbol
symbols_of t = t.symbols.items

-- the bytes in which the names are
abbrev pub names_of : SymbolTable → List ℕ
names_of t = t.names.items

-- the number of parts in which a search looks, each in logarithmic time
abbrev pub part_count : SymbolTable → ℕ
part_count t = length t.layers.items
