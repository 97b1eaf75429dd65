use Rattle.std.proofs.Common.{◌≡◌, take}
use Rattle.linux_perf_data.specs.steps.FeatureData.{feature_entries_of}
use Rattle.linux_perf_data.proofs.FeatureTables.{DataSoFar}
use Rattle.linux_perf_data.proofs.file.feature_data.read_feature_data.Given as goal

abbrev pub invariant-sections : goal.invariant-sections
invariant-sections g l = record {
  so : DataSoFar (feature_entries_of (take l.entry-index l.table)) (g.C.Source.state l.initial.source) l.sections (g.C.Source.state l.source);
  pauses : (g.C.Source.state l.source).pauses ≡ (g.C.Source.state l.initial.source).pauses;
  same_loan : g.C.Source.loan l.source ≡ g.C.Source.loan l.initial.source;
}
