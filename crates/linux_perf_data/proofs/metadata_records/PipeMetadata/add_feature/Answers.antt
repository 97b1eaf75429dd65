use Rattle.linux_perf_data.proofs.PipeMetadataGrowth.{feature_added}
use Rattle.linux_perf_data.proofs.FeatureTables.{data_put}
use Rattle.std.proofs.Common.{refl}
use Rattle.linux_perf_data.proofs.metadata_records.PipeMetadata.add_feature.Goals as goal

pub returns : goal.returns
returns c =
    let header = c.in_ok-header.header in
    feature_added c.args.endian c.args.body.now c.args.self.now _ header c.in_ok-header.ensures refl
    (data_put c.args.self.now.sections c.insert.new.self header.feature header.bytes c.in_ok-insert.ensures.updates.0) c.insert-2.ensures
