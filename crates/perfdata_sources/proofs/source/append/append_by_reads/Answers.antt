use Rattle.std.proofs.Common.{arith, ◌<◌}
use Rattle.std.proofs.lemmas.Result.{err_from_is_err_and}
use Rattle.perfdata_sources.proofs.ConsumedLemmas.{appended_error}
use Rattle.perfdata_sources.proofs.source.append.append_by_reads.Goals as goal

pub returns-in_err-read_count-clause-appends : goal.returns-in_err-read_count-clause-appends
returns-in_err-read_count-clause-appends g c = let p = err_from_is_err_and c.from_residual.result c.from_residual.ensures.1 in
    let before = c.loop-appended.invariant in
    let some : 0 < c.min-wanted.result = omega arith in
    rw (p.1, p.2) (appended_error c.in_err-read_count.field-0.0 _ _ _ c.args.buffer.now.items c.loop-appended.buffer.items c.append_chunk.new.buffer.items before.1.0 c.loop-appended.appended c.min-wanted.result c.args.count before.1.1 before.1.2 before.1.3 (c.in_err-read_count.ensures.appends some) (omega arith))
