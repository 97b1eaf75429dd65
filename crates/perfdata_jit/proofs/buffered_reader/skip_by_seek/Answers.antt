use Rattle.std.proofs.Common.{arith, ◌∙◌}
use Rattle.perfdata_jit.proofs.Seeks.{skipped_by_seek}
use Rattle.perfdata_jit.proofs.buffered_reader.skip_by_seek.Goals as goal

pub returns-clause-skips : goal.returns-clause-skips
returns-clause-skips g c =
    let one = c.in_ok-position.ensures in
    let two = c.in_ok-end.ensures in
    let three = c.in_ok-seek_to-2.ensures in
    skipped_by_seek _ _ _ _ c.in_ok-position.position c.in_ok-end.end c.args.count _ (g.met.R.PlacedSource.remaining_from_position _) one.seeks two.seeks three.seeks (omega arith) (omega arith)
    (record { errors = three.counts.0 ∙ two.counts.0 ∙ one.counts.0; pauses = three.counts.1 ∙ two.counts.1 ∙ one.counts.1 })
