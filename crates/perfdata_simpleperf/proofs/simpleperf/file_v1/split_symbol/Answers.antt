use Rattle.std.proofs.Common.{inr}
use Rattle.std.proofs.lemmas.Result.{err_from_is_err_and}
use Rattle.perfdata_simpleperf.proofs.simpleperf.file_v1.split_symbol.Goals as goal

pub returns-in_err-text-clause-on_error : goal.returns-in_err-text-clause-on_error
returns-in_err-text-clause-on_error g c =
    let r = c.from_residual-in_err-text in
    let p = err_from_is_err_and r.result r.ensures.1 in
    rw (p.1, p.2) (inr (inr (c.in_ok-vaddr.vaddr, c.in_ok-vaddr.rest.now, c.in_ok-vaddr.ensures.on_ok, inr (c.in_ok-len.len, c.in_ok-len.rest.now, c.in_ok-len.ensures.on_ok, c.in_err-text.ensures.on_error))))
