use Rattle.std.proofs.Common.{◌≡◌, length}
use Rattle.perfdata_simpleperf.specs.FileV1.{RepeatedAt, IntegerAt}
use Rattle.perfdata_simpleperf.proofs.simpleperf.file_v1.split_offsets.Given as goal

abbrev pub invariant-offsets : goal.invariant-offsets
invariant-offsets g l = record {
  long : length l.offsets.items ≡ l._index;
  are : RepeatedAt (IntegerAt g.T.ByteOrder.number_of 8) l.initial.rest l.offsets.items l.rest;
}
