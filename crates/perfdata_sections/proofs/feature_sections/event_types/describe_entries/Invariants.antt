use Rattle.std.proofs.Common.{◌≡◌, take}
use Rattle.perfdata_sources.specs.Source.{AfterSeek, all_bytes_of}
use Rattle.perfdata_sections.specs.EventTypes.{type_name_at, AreEntryDescriptions, position_after_ids}
use Rattle.perfdata_sections.proofs.feature_sections.event_types.describe_entries.Given as goal

abbrev pub invariant-entries : goal.invariant-entries
invariant-entries g l = record {
  descriptions_match : AreEntryDescriptions g.T.ByteOrder.number_of (all_bytes_of (g.C.Source.state l.initial.source).position) (type_name_at l.types) 0 (take l.index l.entries) l.all.items;
  after_seek : AfterSeek (g.C.Source.state l.initial.source) (g.C.Source.state l.source);
  position : (g.C.Source.state l.source).position ≡ position_after_ids (g.C.Source.state l.initial.source).position (take l.index l.entries);
  pauses : (g.C.Source.state l.source).pauses ≡ (g.C.Source.state l.initial.source).pauses;
  same_loan : g.C.Source.loan l.source ≡ g.C.Source.loan l.initial.source;
}
