use Rattle.std.proofs.Common.{rules}
use Rattle.std.specs.Prelude.{string_bytes}
use Rattle.std.specs.Option.{option_map}
use Rattle.std.proofs.lemmas.Result.{err_from_is_err_and}
use Rattle.perfdata_sections.proofs.Pmus.{unit_error, unit_read}
use Rattle.perfdata_sections.proofs.feature_sections.pmu_mappings.read_pmu.Goals as goal

pub returns-clause-reads : goal.returns-clause-reads
returns-clause-reads g c =
    unit_read g.T.ByteOrder.number_of g.met.T.ByteOrder.reads_first _ _ _ c.read_exact.new.buf c.read_u32.result (option_map string_bytes c.in_ok-name.name) (search rules) (search rules) c.in_ok-read_exact.ensures.reads c.in_ok-name.ensures.reads

pub returns-in_err-name-clause-reads : goal.returns-in_err-name-clause-reads
returns-in_err-name-clause-reads g c =
    let p = err_from_is_err_and c.from_residual-in_err-name.result c.from_residual-in_err-name.ensures.1 in
    rw (p.1, p.2) (unit_error g.T.ByteOrder.number_of g.met.T.ByteOrder.reads_first _ _ _ c.read_exact.new.buf _ (search rules) c.in_ok-read_exact.ensures.reads c.in_err-name.ensures.reads)
