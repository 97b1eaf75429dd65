use Rattle.std.proofs.Common.{◌≡◌, ◌-◌, ◌<◌, ◌≤◌, length}
use Rattle.perfdata_jit.specs.BufferedReader.{KeepsBytes, SameCounts, reader_source_state, buffered_in, overflow_len_of, overflow_capacity_of, ring_capacity_of}
use Rattle.perfdata_jit.proofs.buffered_reader.BufferedReader.ensure_buffered.Given as goal

abbrev pub decreases-reads : goal.decreases-reads
decreases-reads g l = l.count - length (buffered_in l.self)

abbrev pub invariant-reads : goal.invariant-reads
invariant-reads g l = record {
  keeps : KeepsBytes g.R.Source.state l.fn.self l.self;
  counts : SameCounts (reader_source_state g.R.Source.state l.fn.self) (reader_source_state g.R.Source.state l.self);
  overflow_compact : l.self.buffer.overflow_start ≡ 0;
  overflow : overflow_len_of l.self < l.count;
  fits : l.count ≤ ring_capacity_of l.fn.self → overflow_len_of l.self ≤ overflow_len_of l.fn.self;
  same_capacity : l.count ≤ ring_capacity_of l.fn.self → overflow_capacity_of l.self ≡ overflow_capacity_of l.fn.self;
  same_loan : g.R.Source.loan l.self.source ≡ g.R.Source.loan l.fn.self.source;
}
