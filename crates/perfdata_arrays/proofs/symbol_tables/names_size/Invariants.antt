use Rattle.std.proofs.Common.{◌≡◌, ◌-◌, ◌≤◌, length, take}
use Rattle.std.specs.Prelude.{map}
use Rattle.perfdata_simpleperf.specs.FileRecord.{symbol_value}
use Rattle.perfdata_arrays.specs.SymbolTables.{symbol_names}
use Rattle.perfdata_arrays.proofs.symbol_tables.names_size.Given as goal

abbrev pub invariant-symbols : goal.invariant-symbols
invariant-symbols l = record {
  within : l.index ≤ length l.symbols;
  counted : l.size ≡ length (symbol_names (map symbol_value (take l.index l.symbols)));
}

abbrev pub decreases-symbols : goal.decreases-symbols
decreases-symbols l = length l.symbols - l.index
