use Rattle.std.proofs.Common.{◌≡◌}
use Rattle.perfdata_sections.specs.EventDesc.{EventsRead}
use Rattle.perfdata_sections.proofs.feature_sections.event_desc.read_events.Given as goal

abbrev pub invariant-events : goal.invariant-events
invariant-events g l = record {
  prefix_read : EventsRead g.T.ByteOrder.number_of l.attr_size l._index (g.C.Source.state l.initial.source) l.all.items (g.C.Source.state l.source);
  pauses : (g.C.Source.state l.source).pauses ≡ (g.C.Source.state l.initial.source).pauses;
  same_loan : g.C.Source.loan l.source ≡ g.C.Source.loan l.initial.source;
}
