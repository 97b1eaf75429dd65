use Rattle.std.proofs.Common.{arith, rules, ◌≡◌, ◌<◌, ◌+◌, length, length-append}
use Rattle.linux_perf_data.proofs.records.framing.append_body.Goals as goal

pub returns-then-appended-count-clause-appends : goal.returns-then-appended-count-clause-appends
returns-then-appended-count-clause-appends g c =
    let same_items : c.append_buffered.new.buffer.items ≡ c.args.body.now.items = search rules in
    let same_state : g.R.Source.state c.append_buffered.new.self ≡ g.R.Source.state c.args.source.now = search rules in
    let appended = rw (same_items, same_state) at c.in-Ok.ensures.appends in
    let fewer : c.in-Ok.appended < c.args.count = c.if-appended-count.true in
    let all : length c.append_up_to.new.buffer.items ≡ length c.args.body.now.items + length appended.bytes = rw appended.buffer_content (length-append c.args.body.now.items appended.bytes) in (
      record {
        partial_read = record { consumed_bytes = appended.bytes; too_few = omega (arith, appended.exact_len, fewer); consumes = appended.consumes };
        buffer_bound = omega (arith, all);
      },
      appended.if_incomplete fewer,
    )
