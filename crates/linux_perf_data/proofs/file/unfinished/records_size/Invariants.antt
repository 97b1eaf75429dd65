use Rattle.std.proofs.Common.{◌≡◌, ◌-◌, ◌≤◌, ◌⊎◌}
use Rattle.perfdata_sources.specs.Source.{AfterSeek}
use Rattle.linux_perf_data.proofs.UnfinishedRecords.{CountsTo}
use Rattle.linux_perf_data.proofs.file.unfinished.records_size.Given as goal

abbrev pub invariant-records : goal.invariant-records
invariant-records g l = record {
  from_start : l.start ≤ l.offset;
  within : (l.offset ≤ l.length) ⊎ (l.offset ≡ l.start);
  seek : AfterSeek (g.C.Source.state l.initial.source) (g.C.Source.state l.source);
  so : CountsTo l.endian l.start l.offset l.length (g.C.Source.state l.initial.source);
  pauses : (g.C.Source.state l.source).pauses ≡ (g.C.Source.state l.initial.source).pauses;
  same_loan : g.C.Source.loan l.source ≡ g.C.Source.loan l.initial.source;
}

abbrev pub decreases-records : goal.decreases-records
decreases-records g l = l.length - l.offset
