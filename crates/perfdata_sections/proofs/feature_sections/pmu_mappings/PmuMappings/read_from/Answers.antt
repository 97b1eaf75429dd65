use Rattle.std.proofs.Common.{rules}
use Rattle.std.proofs.lemmas.Result.{err_from_is_err_and}
use Rattle.perfdata_sections.proofs.Pmus.{section_error, section_partly_read, section_read}
use Rattle.perfdata_sections.proofs.feature_sections.pmu_mappings.PmuMappings.read_from.Goals as goal

pub returns-in_err-names-clause-reads : goal.returns-in_err-names-clause-reads
returns-in_err-names-clause-reads g c =
    let p = err_from_is_err_and c.from_residual-in_err-names.result c.from_residual-in_err-names.ensures.1 in
    rw (p.1, p.2) (section_error g.T.ByteOrder.number_of g.met.T.ByteOrder.reads_first _ _ _ c.read_exact.new.buf c.read_u32.result _ (search rules) (search rules) c.in_ok-read_exact.ensures.reads c.in_err-names.ensures.reads)

pub returns-clause-reads : goal.returns-clause-reads
returns-clause-reads g c =
    section_read g.T.ByteOrder.number_of g.met.T.ByteOrder.reads_first _ (g.R.Source.state c.read_exact.new.source) _ c.read_exact.new.buf c.read_u32.result c.in_ok-names.names _ (search rules) (search rules) c.in_ok-read_exact.ensures.reads c.in_ok-names.ensures.reads c.in_ok-into_index_map.ensures.sorts

pub returns-in_err-into_index_map-clause-reads : goal.returns-in_err-into_index_map-clause-reads
returns-in_err-into_index_map-clause-reads g c =
    let p = err_from_is_err_and c.from_residual-in_err-into_index_map.result c.from_residual-in_err-into_index_map.ensures.1 in
    rw (p.1, p.2) (section_partly_read g.T.ByteOrder.number_of g.met.T.ByteOrder.reads_first _ (g.R.Source.state c.read_exact.new.source) _ c.read_exact.new.buf c.read_u32.result c.in_ok-names.names (search rules) (search rules) c.in_ok-read_exact.ensures.reads c.in_ok-names.ensures.reads c.in_err-into_index_map.ensures.nonempty)
