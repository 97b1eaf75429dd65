use Rattle.std.proofs.Common.{◌-◌, slice_range, arith}
use Rattle.perfdata_jit.proofs.BufferRanges.{main_drops, both_consumed, both_dropped, length_range}
use Rattle.perfdata_jit.proofs.Contiguous.{ring_main_left, ring_prefix_left, ring_single}
use Rattle.perfdata_jit.proofs.ring.Ring.advance.Goals as goal

pub returns-then-n-main-clause-bytes : goal.returns-then-n-main-clause-bytes
returns-then-n-main-clause-bytes c =
    let r = c.args.self.now in
    main_drops r.buffer.items _ r.start r.end c.args.n (omega arith) (omega arith)

pub returns-else-n-main-clause-taken_bytes : goal.returns-else-n-main-clause-taken_bytes
returns-else-n-main-clause-taken_bytes c =
    let r = c.args.self.now in
    let wide = length_range r.buffer.items r.start r.end (omega arith) in
    both_consumed (slice_range r.buffer.items r.start r.end) r.buffer.items r.front (c.args.n - (r.end - r.start)) c.args.n (omega arith) (omega arith)

pub returns-else-n-main-clause-bytes : goal.returns-else-n-main-clause-bytes
returns-else-n-main-clause-bytes c =
    let r = c.args.self.now in
    let wide = length_range r.buffer.items r.start r.end (omega arith) in
    both_dropped (slice_range r.buffer.items r.start r.end) r.buffer.items r.front (c.args.n - (r.end - r.start)) c.args.n (omega arith) (omega arith)

pub returns-then-n-main-clause-keeps_contiguous : goal.returns-then-n-main-clause-keeps_contiguous
returns-then-n-main-clause-keeps_contiguous c = λ m le at. ring_main_left c.args.n m c.args.self.now (omega arith) le at

pub returns-else-n-main-clause-keeps_contiguous : goal.returns-else-n-main-clause-keeps_contiguous
returns-else-n-main-clause-keeps_contiguous c = λ m le at. ring_prefix_left c.args.n m c.args.self.now (omega arith) le at

pub returns-else-n-main-clause-single : goal.returns-else-n-main-clause-single
returns-else-n-main-clause-single c = ring_single c.args.n c.args.self.now (omega arith)
