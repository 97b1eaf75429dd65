-- The results for the set of features.
use Rattle.std.specs.Prelude.{◌≡◌, ℕ, List, slice_index}
use Rattle.perfdata_identifiers.specs.declared.features.FeatureSet.{FeatureSet}
use Rattle.linux_perf_data.specs.declared.perf_file.PerfFile.{PerfFile}
use Rattle.linux_perf_data.specs.PerfFile.{features_of_file}
use Rattle.perfdata_arrays.specs.Metadata.{ReportsFile, ReportsPipe}
use Rattle.perfdata_arrays.specs.declared.feature_set.FeatureBits.{FeatureBits}
use Rattle.perfdata_arrays.specs.declared.feature_set.FeaturesResult.{FeaturesResult}
use Rattle.perfdata_arrays.specs.declared.status.Status.{Status}

-- the four numbers of a set, in which feature n is bit n mod 64 of number n div 64
abbrev pub AreBitsOf : FeatureSet → FeatureBits → Type 0
AreBitsOf set bits =
    (bits.bits0 ≡ slice_index set.0 0) × (bits.bits1 ≡ slice_index set.0 1) × (bits.bits2 ≡ slice_index set.0 2) × (bits.bits3 ≡ slice_index set.0 3)

abbrev pub no_features_with : Status → FeaturesResult
no_features_with status = record { features = record { bits0 = 0; bits1 = 0; bits2 = 0; bits3 = 0 }; status = status }

-- the features, and the status of the recording
abbrev pub AreFeaturesOf : FeaturesResult → PerfFile → Status → Type 0
AreFeaturesOf outcome file status = (outcome.status ≡ status) × AreBitsOf (features_of_file file) outcome.features

abbrev pub HasNoFeatures : FeaturesResult → Status → Type 0
HasNoFeatures outcome status = outcome ≡ no_features_with status

-- The result for the features of a file. If the file doesn't open, there are none.
abbrev pub ReadsFileFeatures : List ℕ → FeaturesResult → Type 0
ReadsFileFeatures bytes outcome = ReportsFile bytes (AreFeaturesOf outcome) (HasNoFeatures outcome)

-- The result for the features of a pipe, up to the pipe's end or first error. If the pipe doesn't open, there are none.
abbrev pub ReadsPipeFeatures : List ℕ → FeaturesResult → Type 0
ReadsPipeFeatures bytes outcome = ReportsPipe bytes (AreFeaturesOf outcome) (HasNoFeatures outcome)
