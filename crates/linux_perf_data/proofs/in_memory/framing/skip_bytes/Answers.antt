use Rattle.std.proofs.Common.{rules, arith, ap, ◌≡◌, ◌+◌, length, drop}
use Rattle.std.specs.Io.Cursor.{cursor_inner, cursor_position}
use Rattle.linux_perf_data.proofs.InMemoryFraming.{skipped_all, skipped_rest}
use Rattle.linux_perf_data.proofs.in_memory.framing.skip_bytes.Goals as goal

pub returns-then-remaining_count-count : goal.returns-then-remaining_count-count
returns-then-remaining_count-count c =
    let all = (cursor_inner c.args.source.now).now in
    let at = cursor_position c.args.source.now in
    let n = length c.remaining.result.now in
    let long : n ≡ length (drop at all) = ap length c.remaining.ensures.value in
    let inner : cursor_inner c.set_position.new.self ≡ cursor_inner c.args.source.now = search rules in
    let there : cursor_position c.set_position.new.self ≡ at + n = search rules in
    rw (inner, there) (skipped_rest all at c.args.count n long c.if-remaining_count-count.true)

pub returns : goal.returns
returns c =
    let all = (cursor_inner c.args.source.now).now in
    let at = cursor_position c.args.source.now in
    let n = length c.remaining.result.now in
    let long : n ≡ length (drop at all) = ap length c.remaining.ensures.value in
    let inner : cursor_inner c.set_position-2.new.self ≡ cursor_inner c.args.source.now = search rules in
    let there : cursor_position c.set_position-2.new.self ≡ at + c.args.count = search rules in
    rw (inner, there) (skipped_all all at c.args.count (let enough = c.if-remaining_count-count.false in omega (arith, long, enough)))
