use Rattle.perfdata_arrays.proofs.MetadataReports.{reports_file}
use Rattle.perfdata_arrays.specs.Features.{CopiesFeatureOf, CopiesNothing}
use Rattle.perfdata_arrays.proofs.features.file_feature.Goals as goal

pub returns : goal.returns
returns c = reports_file c.args.bytes.now (CopiesFeatureOf c.args.feature c.args.buf.now c.feature_result.result c.feature_result.new.buf) (CopiesNothing c.args.buf.now c.feature_result.result c.feature_result.new.buf) c.file_metadata.result c.file_metadata.ensures c.feature_result.ensures
