use Rattle.std.proofs.Common.{rules}
use Rattle.std.proofs.lemmas.Result.{err_from_is_err_and}
use Rattle.perfdata_sections.proofs.Texts.{string_read, string_body_error}
use Rattle.perfdata_sections.proofs.feature_sections.header_string.HeaderString.read_from.Goals as goal

pub returns-clause-reads : goal.returns-clause-reads
returns-clause-reads g c =
    string_read g.T.ByteOrder.number_of g.met.T.ByteOrder.reads_first _ _ _ c.read_exact.new.buf c.in_ok-bytes.bytes.items c.read_u32.result _ (search rules) (search rules) c.in_ok-bytes.ensures.reads.0 c.in_ok-read_exact.ensures.reads c.in_ok-bytes.ensures.reads.1 (search rules)

pub returns-in_err-bytes-clause-reads : goal.returns-in_err-bytes-clause-reads
returns-in_err-bytes-clause-reads g c =
    let p = err_from_is_err_and c.from_residual-in_err-bytes.result c.from_residual-in_err-bytes.ensures.1 in
    rw (p.1, p.2) (string_body_error g.T.ByteOrder.number_of g.met.T.ByteOrder.reads_first _ _ _ c.read_exact.new.buf c.read_u32.result _ (search rules) (search rules) c.in_ok-read_exact.ensures.reads c.in_err-bytes.ensures.reads)
