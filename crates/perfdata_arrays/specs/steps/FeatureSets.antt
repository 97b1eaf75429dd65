-- Steps of private functions: the results for the set of features.
use Rattle.std.specs.Prelude.{Result}
use Rattle.perfdata_arrays.specs.steps.Metadata.{ReportsOf}
use Rattle.perfdata_arrays.specs.declared.metadata.Metadata.{Metadata}
use Rattle.perfdata_arrays.specs.declared.feature_set.FeaturesResult.{FeaturesResult}
use Rattle.perfdata_arrays.specs.declared.status.Status.{Status}
use Rattle.perfdata_arrays.specs.FeatureSets.{AreFeaturesOf, HasNoFeatures}

abbrev pub ReadsFeatures : Result Metadata Status → FeaturesResult → Type 0
ReadsFeatures read outcome = ReportsOf (AreFeaturesOf outcome) (HasNoFeatures outcome) read
