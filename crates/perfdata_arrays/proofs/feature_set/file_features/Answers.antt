use Rattle.perfdata_arrays.proofs.MetadataReports.{reports_file}
use Rattle.perfdata_arrays.specs.FeatureSets.{AreFeaturesOf, HasNoFeatures}
use Rattle.perfdata_arrays.proofs.feature_set.file_features.Goals as goal

pub returns : goal.returns
returns c = reports_file c.args.bytes.now (AreFeaturesOf c.features_result.result) (HasNoFeatures c.features_result.result) c.file_metadata.result c.file_metadata.ensures c.features_result.ensures
