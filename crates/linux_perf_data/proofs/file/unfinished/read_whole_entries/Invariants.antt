use Rattle.std.proofs.Common.{◌≡◌}
use Rattle.perfdata_identifiers.specs.Features.{features_of, remaining_features}
use Rattle.linux_perf_data.specs.steps.FeatureData.{feature_entries_of}
use Rattle.linux_perf_data.proofs.UnfinishedSections.{WholeEntriesSoFar}
use Rattle.linux_perf_data.proofs.file.unfinished.read_whole_entries.Given as goal

abbrev pub invariant-entries : goal.invariant-entries
invariant-entries g l = record {
  can : (goal.iterator-entries g).can_next l.feature-iterator;
  ends : (goal.iterator-entries g).is_finite l.feature-iterator;
  so : WholeEntriesSoFar l.endian (features_of l.features) l.count l.length (g.C.Source.state l.initial.source) (feature_entries_of l.table.items) (remaining_features l.feature-iterator) l.left (g.C.Source.state l.source);
  pauses : (g.C.Source.state l.source).pauses ≡ (g.C.Source.state l.initial.source).pauses;
  same_loan : g.C.Source.loan l.source ≡ g.C.Source.loan l.initial.source;
}
