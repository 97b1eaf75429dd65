use Rattle.std.proofs.Common.{inl, inr, arith}
use Rattle.std.proofs.lemmas.Result.{err_from_is_err_and}
use Rattle.perfdata_events.proofs.format.EventFormat.parse_types_to_15.Goals as goal

pub returns-in_err-read-in-READ-clause-decodes : goal.returns-in_err-read-in-READ-clause-decodes
returns-in_err-read-in-READ-clause-decodes c =
    let p = err_from_is_err_and c.from_residual.result c.from_residual.ensures.1 in
    rw (p.1, p.2) (inr (inl (inl (omega arith, c.in_err-read-in-READ.ensures.decodes))))

pub returns-in_err-mmap2-in-MMAP2-clause-decodes : goal.returns-in_err-mmap2-in-MMAP2-clause-decodes
returns-in_err-mmap2-in-MMAP2-clause-decodes c =
    let p = err_from_is_err_and c.from_residual-in_err-mmap2-in-MMAP2.result c.from_residual-in_err-mmap2-in-MMAP2.ensures.1 in
    rw (p.1, p.2) (inr (inl (inr (inl (omega arith, c.in_err-mmap2-in-MMAP2.ensures.decodes)))))
