use Rattle.std.proofs.Common.{take}
use Rattle.linux_perf_data.specs.steps.FeatureData.{feature_entries_of}
use Rattle.linux_perf_data.specs.steps.UnfinishedFile.{ContainsFeatures}
use Rattle.linux_perf_data.proofs.file.unfinished.present_features.Given as goal

abbrev pub invariant-entries : goal.invariant-entries
invariant-entries l = record {
  so : ContainsFeatures (feature_entries_of (take l.entry-index l.table)) l.features;
}
