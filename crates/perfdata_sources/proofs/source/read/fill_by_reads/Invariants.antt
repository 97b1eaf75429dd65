use Rattle.std.proofs.Common.{◌≡◌, ◌+◌, ◌-◌, ◌*◌, ◌≤◌, length, take}
use Rattle.perfdata_sources.specs.Source.{Consumed}
use Rattle.perfdata_sources.proofs.source.read.fill_by_reads.Given as goal

abbrev pub invariant-loop-filled : goal.invariant-loop-filled
invariant-loop-filled g l = record {
  within : l.filled ≤ length l.buf;
  tries : l.repeats ≤ 16;
  filled_part : Consumed (g.S.Source.state l.initial.source) (take l.filled l.buf) (g.S.Source.state l.source);
  pauses : (g.S.Source.state l.source).pauses ≡ (g.S.Source.state l.initial.source).pauses;
  same_loan : g.S.Source.loan l.source ≡ g.S.Source.loan l.initial.source;
}

abbrev pub decreases-loop-filled : goal.decreases-loop-filled
decreases-loop-filled g l = 17 * (length l.buf - l.filled) + (16 - l.repeats)
