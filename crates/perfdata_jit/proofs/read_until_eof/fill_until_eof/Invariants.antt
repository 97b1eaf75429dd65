use Rattle.std.proofs.Common.{◌≡◌, ◌-◌, ◌≤◌, length, take}
use Rattle.perfdata_sources.specs.Source.{Consumed}
use Rattle.perfdata_jit.specs.BufferedReader.{SameCounts}
use Rattle.perfdata_jit.proofs.read_until_eof.fill_until_eof.Given as goal

abbrev pub invariant-reads : goal.invariant-reads
invariant-reads g l = record {
  within : l.filled ≤ length l.buf;
  consumes : Consumed (g.R.Source.state l.initial.source) (take l.filled l.buf) (g.R.Source.state l.source);
  counts : SameCounts (g.R.Source.state l.initial.source) (g.R.Source.state l.source);
  same_loan : g.R.Source.loan l.source ≡ g.R.Source.loan l.initial.source;
}

abbrev pub decreases-reads : goal.decreases-reads
decreases-reads g l = length l.buf - l.filled
