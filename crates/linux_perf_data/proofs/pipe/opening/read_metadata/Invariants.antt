use Rattle.std.proofs.Common.{◌≡◌, ◌-◌, ◌^◌}
use Rattle.linux_perf_data.proofs.PipeMetadataRuns.{SoFar}
use Rattle.linux_perf_data.proofs.pipe.opening.read_metadata.Given as goal

abbrev pub invariant-records : goal.invariant-records
invariant-records g l = record {
  so : SoFar l.endian (g.R.Source.state l.initial.source) (g.R.Source.state l.source) l.metadata l.offset;
  pauses : (g.R.Source.state l.source).pauses ≡ (g.R.Source.state l.initial.source).pauses;
  same_loan : g.R.Source.loan l.source ≡ g.R.Source.loan l.initial.source;
}

abbrev pub decreases-records : goal.decreases-records
decreases-records g l = 2 ^ 64 - l.offset
