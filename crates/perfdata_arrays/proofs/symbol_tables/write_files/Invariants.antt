use Rattle.std.proofs.Common.{◌≡◌, ◌-◌, ◌≤◌, length, take}
use Rattle.std.specs.Prelude.{map}
use Rattle.perfdata_simpleperf.specs.FileRecord.{record_value}
use Rattle.perfdata_arrays.specs.SymbolTables.{WritesFiles, totals_after_all, zero_totals}
use Rattle.perfdata_arrays.proofs.symbol_tables.write_files.Given as goal

abbrev pub invariant-files : goal.invariant-files
invariant-files l = record {
  within : l.index ≤ length l.all;
  counted : l.totals ≡ totals_after_all zero_totals (map record_value (take l.index l.all));
  writes : WritesFiles (map record_value (take l.index l.all)) (record { files = l.initial.files; symbols = l.initial.symbols; names = l.initial.names; offsets = l.initial.offsets }) (record { files = l.files; symbols = l.symbols; names = l.names; offsets = l.offsets });
}

abbrev pub decreases-files : goal.decreases-files
decreases-files l = length l.all - l.index
