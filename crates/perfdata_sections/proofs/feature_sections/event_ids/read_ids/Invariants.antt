use Rattle.std.proofs.Common.{◌≡◌, ◌-◌, ◌≤◌}
use Rattle.perfdata_sections.specs.ParsedPart.{PartRead}
use Rattle.perfdata_sections.specs.EventIds.{AreIds}
use Rattle.perfdata_sections.proofs.feature_sections.event_ids.read_ids.Given as goal

abbrev pub invariant-reads : goal.invariant-reads
invariant-reads g l = record {
  within : l.remaining ≤ l.fn.count;
  prefix_read : PartRead (AreIds g.T.ByteOrder.number_of (l.fn.count - l.remaining)) (g.R.Source.state l.initial.source) l.ids.items (g.R.Source.state l.source);
  pauses : (g.R.Source.state l.source).pauses ≡ (g.R.Source.state l.initial.source).pauses;
  same_loan : g.R.Source.loan l.source ≡ g.R.Source.loan l.initial.source;
}

abbrev pub decreases-reads : goal.decreases-reads
decreases-reads g l = l.remaining
