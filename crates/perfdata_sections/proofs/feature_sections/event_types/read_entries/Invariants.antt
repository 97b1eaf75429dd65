use Rattle.std.proofs.Common.{◌≡◌, ◌+◌, ◌-◌, ◌<◌, length}
use Rattle.perfdata_sources.specs.Source.{at_offset}
use Rattle.perfdata_sections.specs.EventTypes.{IsEventTypeEntry}
use Rattle.perfdata_sections.proofs.ItemRuns.{IsSoFar}
use Rattle.perfdata_sections.proofs.feature_sections.event_types.read_entries.Given as goal

abbrev pub invariant-entries : goal.invariant-entries
invariant-entries g l = record {
  so_far : IsSoFar (IsEventTypeEntry g.T.ByteOrder.number_of l.attr_size) (l.attr_size + 16) l.section.offset l.section.size (g.C.Source.state l.initial.source) (g.C.Source.state l.source) l.at l.all.items;
  position : 0 < length l.all.items → (g.C.Source.state l.source).position ≡ at_offset l.at (g.C.Source.state l.initial.source).position;
  pauses : (g.C.Source.state l.source).pauses ≡ (g.C.Source.state l.initial.source).pauses;
  same_loan : g.C.Source.loan l.source ≡ g.C.Source.loan l.initial.source;
}

abbrev pub decreases-entries : goal.decreases-entries
decreases-entries g l = l.end - l.at
