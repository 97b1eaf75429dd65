use Rattle.std.proofs.Common.{subst}
use Rattle.std.proofs.lemmas.Result.{err_from_is_err_and}
use Rattle.perfdata_identifiers.specs.Features.{features_of}
use Rattle.linux_perf_data.specs.steps.FeatureData.{ReadsFeatureData, feature_entries_of}
use Rattle.linux_perf_data.proofs.FeatureTables.{sections_read, table_error}
use Rattle.linux_perf_data.proofs.file.feature_data.read_features.Goals as goal

pub returns-clause-reads : goal.returns-clause-reads
returns-clause-reads g c =
    sections_read c.args.endian c.args.offset (features_of c.args.features.now) _ _ _ _ (feature_entries_of c.in_ok-table.table.items) c.read_feature_data.result c.in_ok-seek_to_offset.ensures.seeks.1 c.in_ok-seek_to_offset.ensures.seeks.0 c.in_ok-table.ensures.reads
    (subst (λ t. ReadsFeatureData (feature_entries_of t) (g.C.Source.state c.read_section_table.new.source) c.read_feature_data.result (g.C.Source.state c.read_feature_data.new.source)) c.deref.ensures.value c.read_feature_data.ensures.reads)

pub returns-in_err-table-clause-reads : goal.returns-in_err-table-clause-reads
returns-in_err-table-clause-reads g c =
    let p = err_from_is_err_and c.from_residual-in_err-table.result c.from_residual-in_err-table.ensures.1 in
    let state = g.C.Source.state in
    rw (p.1, p.2) (table_error (Unit {0}) c.args.endian c.args.offset (features_of c.args.features.now) (state c.args.source.now) (state c.seek_to_offset.new.source) (state c.read_section_table.new.source) _ c.in_ok-seek_to_offset.ensures.seeks.1 c.in_ok-seek_to_offset.ensures.seeks.0 c.in_err-table.ensures.reads)
