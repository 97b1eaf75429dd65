-- Steps of private functions: the results for a feature's bytes.
use Rattle.std.specs.Prelude.{ℕ, List, Result}
use Rattle.perfdata_arrays.specs.steps.Metadata.{ReportsOf}
use Rattle.perfdata_arrays.specs.declared.metadata.Metadata.{Metadata}
use Rattle.perfdata_arrays.specs.declared.features.FeatureResult.{FeatureResult}
use Rattle.perfdata_arrays.specs.declared.status.Status.{Status}
use Rattle.perfdata_arrays.specs.Features.{CopiesFeatureOf, CopiesNothing}

abbrev pub ReadsFeature : Result Metadata Status → ℕ → List ℕ → FeatureResult → List ℕ → Type 0
ReadsFeature read n old outcome new = ReportsOf (CopiesFeatureOf n old outcome new) (CopiesNothing old outcome new) read
