use Rattle.std.proofs.Common.{rules, arith, ◌≡◌, ◌≤◌, length, take, ℕ, List, ◌∙◌}
use Rattle.std.proofs.lemmas.Result.{err_from_is_err_and}
use Rattle.perfdata_sources.proofs.ConsumedLemmas.{part_more, skipped_more, skipped_short, failed_later}
use Rattle.std.proofs.lemmas.List.{length-take-le}
use Rattle.perfdata_sources.proofs.source.read.skip_up_to.Goals as goal

-- the buffer has the requested length
asked : (xs ys : List ℕ) (n : ℕ) → length ys ≡ length (take n xs) → n ≤ length xs → length ys ≡ n
asked xs ys n same fits = same ∙ length-take-le n xs fits

pub returns-in_err-read_count-clause-skips : goal.returns-in_err-read_count-clause-skips
returns-in_err-read_count-clause-skips g c =
    let p = err_from_is_err_and c.from_residual.result c.from_residual.ensures.1 in
    let before = c.loop-skipped.invariant in
    let long = asked c.loop-skipped.scratch c.fill.new.buf c.min-wanted.result c.fill.auto.buf (search rules) in
    let wanted = c.min-wanted.ensures in
    rw p.1 (part_more _ _ _ before.1.0 c.loop-skipped.skipped (length c.fill.new.buf) c.args.count before.1.1 before.1.2 c.in_err-read_count.ensures.fills.0 (omega arith), failed_later _ _ _ _ before.1.2 c.in_err-read_count.ensures.fills.1)

pub returns-then-read_count-wanted-clause-skips : goal.returns-then-read_count-wanted-clause-skips
returns-then-read_count-wanted-clause-skips g c =
    let before = c.loop-skipped.invariant in
    let long = asked c.loop-skipped.scratch c.fill.new.buf c.min-wanted.result c.fill.auto.buf (search rules) in
    skipped_short _ _ _ before.1.0 c.fill.new.buf c.loop-skipped.skipped c.in_ok-read_count.read_count c.args.count before.1.1 before.1.2 c.in_ok-read_count.ensures.fills (omega arith) (omega arith)

pub loop-skipped-preserved : goal.loop-skipped-preserved
loop-skipped-preserved g c =
    let before = c.loop-skipped.invariant in
    let long = asked c.loop-skipped.scratch c.fill.new.buf c.min-wanted.result c.fill.auto.buf (search rules) in
    let fits : c.in_ok-read_count.read_count ≤ length c.fill.new.buf = c.in_ok-read_count.ensures.fills.within in
    (omega arith, skipped_more _ _ _ before.1.0 c.fill.new.buf c.loop-skipped.skipped c.in_ok-read_count.read_count before.1.1 before.1.2 c.in_ok-read_count.ensures.fills, c.in_ok-read_count.ensures.pauses.0 (omega arith) ∙ before.2, c.in_ok-read_count.ensures.same_loan ∙ before.3)
