use Rattle.std.proofs.Common.{◌++◌, subst, inl, inr}
use Rattle.std.proofs.lemmas.Result.{err_from_is_err_and}
use Rattle.perfdata_base.specs.PipeHeader.{PipeHeaderWithExtraParsed}
use Rattle.linux_perf_data.proofs.PipeFinish.{prefix_short, magic_error, pipe_done}
use Rattle.linux_perf_data.proofs.pipe.opening.open_pipe.Goals as goal

pub returns-in_err-header-clause-reads : goal.returns-in_err-header-clause-reads
returns-in_err-header-clause-reads g c =
    let p = err_from_is_err_and c.from_residual.result c.from_residual.ensures.1 in
    rw (p.1, p.2) (elim c.in_err-header.ensures.parses [
      | inl fewer ↦ record {
        consumed_bytes = fewer.consumed_bytes;
        consumes = fewer.consumes;
        cause = λ _. inr (elim fewer.cause [ inl ended ↦ inl (ended.1, inl (ended.0, fewer.too_few)) | inr failed ↦ inr (tt, failed) ]);
      }
      | inr failed ↦ record { consumed_bytes = failed.bytes ++ failed.consumed_bytes; consumes = failed.consumes; cause = λ _. inr (inr (tt, failed.source_failed)) }
    ])

pub returns-in_err-endian-clause-reads : goal.returns-in_err-endian-clause-reads
returns-in_err-endian-clause-reads g c =
    let p = err_from_is_err_and c.from_residual-in_err-endian.result c.from_residual-in_err-endian.ensures.1 in
    rw (p.1, p.2) (magic_error (g.R.Source.state c.args.source.now) (g.R.Source.state c.parse_with_extra.new.source) _ _ _ c.in_ok-header.ensures.parses c.in_err-endian.ensures)

pub returns-then-not-is_complete-clause-reads : goal.returns-then-not-is_complete-clause-reads
returns-then-not-is_complete-clause-reads g c =
    let a = g.R.Source.state c.args.source.now in
    let b = g.R.Source.state c.parse_with_extra.new.source in
    let parsed = subst (λ w. PipeHeaderWithExtraParsed a c.in_ok-header.header w b) c.if-not-is_complete.true c.in_ok-header.ensures.parses in
    prefix_short a b c.in_ok-header.header c.in_ok-endian.endian parsed c.in_ok-endian.ensures

pub returns-clause-reads : goal.returns-clause-reads
returns-clause-reads g c =
    let a = g.R.Source.state c.args.source.now in
    let b = g.R.Source.state c.parse_with_extra.new.source in
    let parsed = subst (λ w. PipeHeaderWithExtraParsed a c.in_ok-header.header w b) c.if-not-is_complete.false c.in_ok-header.ensures.parses in
    pipe_done a b (g.R.Source.state c.open_after_header.new.source) c.in_ok-header.header c.in_ok-endian.endian c.open_after_header.result parsed c.in_ok-endian.ensures c.open_after_header.ensures.opens
