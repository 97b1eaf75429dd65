use Rattle.std.proofs.Common.{◌∙◌, ◌+◌, slice_range, arith, rules}
use Rattle.perfdata_jit.proofs.RingFillings.{read_after}
use Rattle.perfdata_jit.proofs.BufferRanges.{main_grows, prefix_grows, no_prefix, take_range}
use Rattle.perfdata_jit.proofs.ring.Ring.fill.Goals as goal

pub returns-in_ok-count-clause-fills : goal.returns-in_ok-count-clause-fills
returns-in_ok-count-clause-fills g c =
    let r = c.args.self.now in
    let ys = c.read_into_range.new.buffer.items in
    let n = c.in_ok-count.count in
    read_after _ _ _ _ _ (slice_range ys r.end (r.end + n)) n c.in_ok-count.ensures.reads (take_range ys r.end _ n (omega (arith, c.in_ok-count.ensures.bound)))
    (main_grows r.buffer.items ys r.start r.end r.front n r.ordered (no_prefix r.front r.end c.len-size.result (λ h. r.wraps_at_end h ∙ omega arith) c.if-self-size.true) c.read_into_range.ensures.before)

pub returns-in_ok-front_count-clause-fills : goal.returns-in_ok-front_count-clause-fills
returns-in_ok-front_count-clause-fills g c =
    let r = c.args.self.now in
    let ys = c.read_into_range-else-self-size.new.buffer.items in
    let n = c.in_ok-front_count.front_count in
    read_after _ _ _ _ _ (slice_range ys r.front (r.front + n)) n c.in_ok-front_count.ensures.reads (take_range ys r.front _ n (omega (arith, c.in_ok-front_count.ensures.bound)))
    (prefix_grows r.buffer.items ys r.start r.end r.front n c.read_into_range-else-self-size.ensures.after c.read_into_range-else-self-size.ensures.before)

pub returns-in_err-front_count-clause-fills : goal.returns-in_err-front_count-clause-fills
returns-in_err-front_count-clause-fills g c = search rules

pub invariant_of-self-else-self-size : goal.invariant_of-self-else-self-size
invariant_of-self-else-self-size g c = search rules
