use Rattle.std.proofs.lemmas.Result.{err_from_is_err_and}
use Rattle.linux_perf_data.proofs.UnfinishedRecords.{has_length}
use Rattle.linux_perf_data.proofs.UnfinishedFiles.{header_error, magic_error, length_error, header_unopened, opens}
use Rattle.linux_perf_data.proofs.file.unfinished.open_unfinished_file.Goals as goal

pub returns-in_err-header-clause-reads : goal.returns-in_err-header-clause-reads
returns-in_err-header-clause-reads g c =
    let p = err_from_is_err_and c.from_residual.result c.from_residual.ensures.1 in
    rw (p.1, p.2) (header_unopened _ _ _ (header_error _ _ _ (g.met.C.PlacedSource.remaining_from_position _) c.in_err-header.ensures.parses))

pub returns-in_err-endian-clause-reads : goal.returns-in_err-endian-clause-reads
returns-in_err-endian-clause-reads g c =
    let p = err_from_is_err_and c.from_residual-in_err-endian.result c.from_residual-in_err-endian.ensures.1 in
    rw (p.1, p.2) (header_unopened _ _ _ (magic_error _ _ c.in_ok-header.header _ (g.met.C.PlacedSource.remaining_from_position _) c.in_ok-header.ensures.parses c.in_err-endian.ensures))

pub returns-in_err-length-clause-reads : goal.returns-in_err-length-clause-reads
returns-in_err-length-clause-reads g c =
    let p = err_from_is_err_and c.from_residual-in_err-length.result c.from_residual-in_err-length.ensures.1 in
    rw (p.1, p.2) (header_unopened _ _ _ (length_error _ _ _ c.in_ok-header.header _ c.in_ok-header.ensures.parses c.in_err-length.ensures.reads))

pub open_unfinished_after_header-requires : goal.open_unfinished_after_header-requires
open_unfinished_after_header-requires g c = has_length _ _ c.in_ok-length.length c.in_ok-length.ensures.reads

pub returns-clause-reads : goal.returns-clause-reads
returns-clause-reads g c =
    opens _ _ _ _ c.in_ok-endian.endian c.in_ok-header.header c.in_ok-length.length (g.met.C.PlacedSource.remaining_from_position _) c.in_ok-header.ensures.parses c.in_ok-endian.ensures c.in_ok-length.ensures.reads c.open_unfinished_after_header.result c.open_unfinished_after_header.ensures.reads
