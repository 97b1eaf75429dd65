-- Lists of symbols of ELF files.
use Rattle.std.specs.Prelude.{ℕ, List}
use Rattle.code_symbols.specs.declared.ranked.RankedSymbol.{RankedSymbol}
use Rattle.code_symbols.specs.declared.ranked.RankedSymbols.{RankedSymbols}

-- the symbols, in the order in which they were added
abbrev pub ranked_symbols_of : RankedSymbols → List RankedSymbol
ranked_symbols_of r = r.symbols.items

-- the bytes in which the names are
abbrev pub ranked_names_of : RankedSymbols → List ℕ
ranked_names_of r = r.names.items
