use Rattle.perfdata_arrays.proofs.MetadataReports.{reports_pipe}
use Rattle.perfdata_arrays.specs.FeatureSets.{AreFeaturesOf, HasNoFeatures}
use Rattle.perfdata_arrays.proofs.feature_set.pipe_features.Goals as goal

pub returns : goal.returns
returns c = reports_pipe c.args.bytes.now (AreFeaturesOf c.features_result.result) (HasNoFeatures c.features_result.result) c.pipe_metadata.result c.pipe_metadata.ensures c.features_result.ensures
