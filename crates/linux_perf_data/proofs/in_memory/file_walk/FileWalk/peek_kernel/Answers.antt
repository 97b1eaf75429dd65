use Rattle.std.proofs.Common.{arith, refl}
use Rattle.linux_perf_data.proofs.in_memory.file_walk.FileWalk.peek_kernel.Goals as goal

pub overflow_add-result : goal.overflow_add-result
overflow_add-result c =
    let limit = c.min-limit.ensures in
    let below = c.if-self-limit.false in
    let small = c.in_ok-header.ensures.1 in
    omega (arith, limit, below, small)

pub returns : goal.returns
returns c =
    let limit = c.min-limit.ensures in
    let below = c.if-self-limit.false in
    let peeked = c.in_ok-header.ensures in
    record {
      may_start = omega (arith, limit, below);
      header_is = peeked.2.0;
      whole = peeked.2.1;
      not_marker = λ marker. (let kernel = peeked.0 in omega (arith, marker, kernel));
      end_is = refl;
    }
