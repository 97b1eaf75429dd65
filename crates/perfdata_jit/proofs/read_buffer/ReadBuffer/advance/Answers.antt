use Rattle.std.proofs.Common.{◌-◌, arith, refl, inl, inr}
use Rattle.perfdata_jit.proofs.BufferRanges.{over_consumed, over_dropped, over_drops}
use Rattle.perfdata_jit.proofs.Contiguous.{overflow_left, ring_left, span_single}
use Rattle.perfdata_jit.specs.Ring.{ring_bytes}
use Rattle.perfdata_jit.proofs.read_buffer.ReadBuffer.advance.Goals as goal

pub returns-then-n-remaining-clause-single : goal.returns-then-n-remaining-clause-single
returns-then-n-remaining-clause-single c = λ _. inl (refl, inr refl)

pub returns-then-n-remaining-clause-consumes_prefix : goal.returns-then-n-remaining-clause-consumes_prefix
returns-then-n-remaining-clause-consumes_prefix c =
    let h = c.args.self.now in
    record {
      bytes = over_drops h.overflow.items (ring_bytes h.ring) h.overflow_start c.args.n (omega arith);
      overflow_size = refl;
      overflow_consumed = λ le. omega (arith, le);
      overflow_capacity = refl;
      ring_capacity = refl;
      keeps_contiguous = λ m le at. overflow_left c.args.n m h (omega arith) le at;
    }

pub returns-clause-value : goal.returns-clause-value
returns-clause-value c =
    let h = c.args.self.now in
    over_consumed h.overflow.items _ (ring_bytes h.ring) h.overflow_start c.len-to.result _ c.args.n (omega arith) (omega arith) c.advance-ring_start.ensures.taken_bytes

pub returns-clause-single : goal.returns-clause-single
returns-clause-single c = λ at. span_single c.args.n _ c.args.self.now _ (omega arith) (omega arith) refl c.len-to.ensures c.advance-ring_start.ensures.single at

pub returns-clause-consumes_prefix : goal.returns-clause-consumes_prefix
returns-clause-consumes_prefix c =
    let h = c.args.self.now in
    record {
      bytes = over_dropped h.overflow.items _ (ring_bytes h.ring) h.overflow_start c.len-to.result _ c.args.n (omega arith) (omega arith) c.advance-ring_start.ensures.bytes;
      overflow_size = refl;
      overflow_consumed = λ le. omega (arith, le, c.len-to.ensures);
      overflow_capacity = refl;
      ring_capacity = c.advance-ring_start.ensures.size;
      keeps_contiguous = λ m le at. ring_left c.args.n m (c.args.n - (c.len.result - h.overflow_start)) c.len-to.result h c.advance-ring_start.new.self (omega arith) c.len-to.ensures c.advance-ring_start.ensures.keeps_contiguous le at;
    }
