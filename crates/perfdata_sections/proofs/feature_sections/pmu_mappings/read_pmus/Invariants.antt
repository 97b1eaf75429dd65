use Rattle.std.proofs.Common.{◌≡◌}
use Rattle.perfdata_sections.specs.PmuMappings.{PmuUnitsRead}
use Rattle.perfdata_sections.proofs.feature_sections.pmu_mappings.read_pmus.Given as goal

abbrev pub invariant-pmus : goal.invariant-pmus
invariant-pmus g l = record {
  prefix_read : PmuUnitsRead g.T.ByteOrder.number_of l._index (g.R.Source.state l.initial.source) l.names (g.R.Source.state l.source);
  pauses : (g.R.Source.state l.source).pauses ≡ (g.R.Source.state l.initial.source).pauses;
  same_loan : g.R.Source.loan l.source ≡ g.R.Source.loan l.initial.source;
}
