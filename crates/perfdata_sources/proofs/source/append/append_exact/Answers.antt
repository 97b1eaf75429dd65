use Rattle.std.proofs.Common.{arith, ◌≡◌, ◌<◌, ◌+◌, length, length-append, inl}
use Rattle.perfdata_sources.proofs.source.append.append_exact.Goals as goal

pub returns-then-appended-count-clause-appends : goal.returns-then-appended-count-clause-appends
returns-then-appended-count-clause-appends g c =
    let appended = c.in_ok-appended.ensures.appends in
    let fewer : c.in_ok-appended.appended < c.args.count = c.if-appended-count.true in
    let all : length c.append_up_to.new.buffer.items ≡ length c.args.buffer.now.items + length appended.bytes = rw appended.buffer_content (length-append c.args.buffer.now.items appended.bytes) in (
      record {
        partial_read = record { consumed_bytes = appended.bytes; too_few = omega (arith, appended.exact_len, fewer); consumes = appended.consumes };
        buffer_bound = omega (arith, all);
      },
      inl (c.unexpected_eof.ensures, appended.if_incomplete fewer),
    )
