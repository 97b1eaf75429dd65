use Rattle.std.proofs.Common.{◌≡◌, length, map}
use Rattle.perfdata_simpleperf.specs.FileRecord.{symbol_value}
use Rattle.perfdata_simpleperf.specs.FileV1.{RepeatedAt, SymbolAt}
use Rattle.perfdata_simpleperf.proofs.simpleperf.file_v1.split_symbols.Given as goal

abbrev pub invariant-symbols : goal.invariant-symbols
invariant-symbols g l = record {
  long : length l.symbols.items ≡ l._index;
  are : RepeatedAt (SymbolAt g.T.ByteOrder.number_of) l.initial.rest (map symbol_value l.symbols.items) l.rest;
}
