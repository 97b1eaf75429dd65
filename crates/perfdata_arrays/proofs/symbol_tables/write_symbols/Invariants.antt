use Rattle.std.proofs.Common.{◌≡◌, ◌+◌, ◌-◌, ◌≤◌, length, take}
use Rattle.std.specs.Prelude.{map}
use Rattle.perfdata_simpleperf.specs.FileRecord.{symbol_value}
use Rattle.perfdata_arrays.specs.Overwrites.{with_entries_at}
use Rattle.perfdata_arrays.specs.SymbolTables.{symbol_entries_at, symbol_names}
use Rattle.perfdata_arrays.proofs.symbol_tables.write_symbols.Given as goal

abbrev pub invariant-symbols : goal.invariant-symbols
invariant-symbols l = record {
  within : l.index ≤ length l.all;
  names_counted : l.name_offset ≡ l.name_start + length (symbol_names (map symbol_value (take l.index l.all)));
  symbols_written : l.symbols ≡ with_entries_at l.start (symbol_entries_at l.name_start (map symbol_value (take l.index l.all))) l.initial.symbols;
  names_written : l.names ≡ with_entries_at l.name_start (symbol_names (map symbol_value (take l.index l.all))) l.initial.names;
}

abbrev pub decreases-symbols : goal.decreases-symbols
decreases-symbols l = length l.all - l.index
