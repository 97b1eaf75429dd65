use Rattle.std.proofs.Common.{◌≡◌, ◌≤◌, ◌-◌, ◌^◌, vec_capacity}
use Rattle.linux_perf_data.proofs.IterCalls.{Idles}
use Rattle.linux_perf_data.proofs.records.iter.PerfRecordIter.advance.Given as goal

abbrev pub invariant-raw_records : goal.invariant-raw_records
invariant-raw_records g l = record {
  idles : Idles g.R.Source.state l.fn.self l.self;
  pauses : (g.R.Source.state l.self.source).pauses ≡ (g.R.Source.state l.fn.self.source).pauses;
  same_loan : g.R.Source.loan l.self.source ≡ g.R.Source.loan l.fn.self.source;
  file : l.perf_file ≡ l.fn.perf_file;
  capacity : vec_capacity l.fn.self.body ≤ vec_capacity l.self.body;
}

abbrev pub decreases-raw_records : goal.decreases-raw_records
decreases-raw_records g l = 2 ^ 64 - l.self.offset
