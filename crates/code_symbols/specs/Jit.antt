-- What the symbols of a jitdump contain.
use Rattle.std.specs.Prelude.{List, map, take}
use Rattle.code_symbols.specs.declared.jit.JitSymbols.{JitSymbols}
use Rattle.code_symbols.specs.declared.jit.Load.{Load}
use Rattle.code_symbols.specs.declared.symbol.Symbol.{Symbol}
use Rattle.code_symbols.specs.declared.table.SymbolTable.{SymbolTable}

-- the table of the code up to a time
abbrev pub jit_table_of : JitSymbols → SymbolTable
jit_table_of j = j.table

-- the code of the load and move records, in the order of their times
abbrev pub loads_of : JitSymbols → List Load
loads_of j = j.loads.items

-- the first ones, which are in the table
abbrev pub shown_of : JitSymbols → List Load
shown_of j = take j.added j.loads.items

-- the symbols of loads
abbrev pub load_symbols : List Load → List Symbol
load_symbols loads = map (λ l. l.symbol) loads
