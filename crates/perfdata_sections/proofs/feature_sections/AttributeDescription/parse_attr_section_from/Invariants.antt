use Rattle.std.proofs.Common.{◌≡◌, ◌-◌}
use Rattle.perfdata_sections.specs.AttrFrames.{IsPlainDescription}
use Rattle.perfdata_sections.proofs.ItemRuns.{IsSoFar}
use Rattle.perfdata_sections.proofs.feature_sections.AttributeDescription.parse_attr_section_from.Given as goal

abbrev pub invariant-frames : goal.invariant-frames
invariant-frames g l = record {
  so_far : IsSoFar (IsPlainDescription g.T.ByteOrder.number_of l.attr_size) l.attr_size l.section.offset l.section.size (g.C.Source.state l.initial.c) (g.C.Source.state l.c) l.at l.all.items;
  pauses : (g.C.Source.state l.c).pauses ≡ (g.C.Source.state l.initial.c).pauses;
  same_loan : g.C.Source.loan l.c ≡ g.C.Source.loan l.initial.c;
}

abbrev pub decreases-frames : goal.decreases-frames
decreases-frames g l = l.end - l.at
