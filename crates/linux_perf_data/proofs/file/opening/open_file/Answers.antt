use Rattle.std.proofs.lemmas.Result.{err_from_is_err_and}
use Rattle.linux_perf_data.proofs.FileOpenings.{header_error, magic_error, after_file}
use Rattle.linux_perf_data.proofs.file.opening.open_file.Goals as goal

pub returns-in_err-header-clause-reads : goal.returns-in_err-header-clause-reads
returns-in_err-header-clause-reads g c =
    let p = err_from_is_err_and c.from_residual.result c.from_residual.ensures.1 in
    rw (p.1, p.2) (header_error _ _ _ (g.met.C.PlacedSource.remaining_from_position _) c.in_err-header.ensures.parses)

pub returns-clause-reads : goal.returns-clause-reads
returns-clause-reads g c = after_file _ _ _ c.in_ok-endian.endian c.in_ok-header.header _ (g.met.C.PlacedSource.remaining_from_position _) c.in_ok-header.ensures.parses c.in_ok-endian.ensures c.open_after_header.ensures.reads

pub returns-in_err-endian-clause-reads : goal.returns-in_err-endian-clause-reads
returns-in_err-endian-clause-reads g c =
    let p = err_from_is_err_and c.from_residual-in_err-endian.result c.from_residual-in_err-endian.ensures.1 in
    rw (p.1, p.2) (magic_error _ _ c.in_ok-header.header _ (g.met.C.PlacedSource.remaining_from_position _) c.in_ok-header.ensures.parses c.in_err-endian.ensures)
