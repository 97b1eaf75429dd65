-- The bytes of a buffer that are in one piece.
use Rattle.std.proofs.Common.{◌≡◌, ℕ, ◌+◌, ◌-◌, ◌<◌, ◌≤◌, ◌⊎◌, inl, inr, List, length, drop, take, slice_range, sym, ap, ◌∙◌, arith, length-append, length-drop, length-take-le}
use Rattle.perfdata_jit.proofs.BufferRanges.{length_range}
use Rattle.perfdata_jit.specs.Ring.{DoesNotWrap, ring_bytes}
use Rattle.perfdata_jit.specs.steps.Ring.{ring_len}
use Rattle.perfdata_jit.specs.ReadBuffer.{IsContiguous, IsOverflowConsumed, overflow_len, read_buffer_bytes}
use Rattle.perfdata_jit.specs.steps.ReadBuffer.{IsSpanSingle}
use Rattle.perfdata_jit.specs.declared.ring.Ring.{Ring}
use Rattle.perfdata_jit.specs.declared.read_buffer.ReadBuffer.{ReadBuffer}
use Rattle.perfdata_jit.specs.declared.read_buffer.BufferRange.{BufferRange}

-- fewer bytes don't wrap either
pub wraps_less : (n m : ℕ) (r : Ring) → n ≤ m → DoesNotWrap m r → DoesNotWrap n r
wraps_less n m r le at = elim at [ inl main ↦ inl (omega (arith, le, main)) | inr front ↦ inr (front.0, omega (arith, le, front.1)) ]

length_ring : (r : Ring) → length (ring_bytes r) ≡ ring_len r
length_ring r =
    let ok = r.buffer.ok.0 in
    let main = length_range r.buffer.items r.start r.end (omega (arith, r.within, ok)) in
    let front = length-take-le r.front r.buffer.items (omega (arith, r.apart, r.ordered, r.within, ok)) in
    omega (arith, length-append (slice_range r.buffer.items r.start r.end) (take r.front r.buffer.items), main, front)

-- bytes in one piece are buffered
pub contiguous_buffered : (n : ℕ) (h : ReadBuffer) → IsContiguous n h → n ≤ length (read_buffer_bytes h)
contiguous_buffered n h at =
    let over = length-drop h.overflow_start h.overflow.items in
    let all = length-append (drop h.overflow_start h.overflow.items) (ring_bytes h.ring) in
    let ring = length_ring h.ring in
    let ok = h.overflow.ok.0 in
    elim at [
      | inl part ↦ omega (arith, part, over, all, ok)
      | inr rest ↦ elim rest.1 [ inl main ↦ omega (arith, main, all, ring) | inr front ↦ omega (arith, front.1, all, ring) ]
    ]

-- bytes are consumed from the main range of a ring
pub ring_main_left : (n m : ℕ) (old : Ring) → n < old.end - old.start → n ≤ m → DoesNotWrap m old → (m - n ≤ old.end - (old.start + n)) ⊎ ((old.start + n ≡ old.end) × (m - n ≤ old.front))
ring_main_left n m old less le at = elim at [ inl main ↦ inl (omega (arith, less, le, main)) | inr front ↦ absurd (omega (arith, less, front.0)) ]

-- the main range of a ring is consumed, and then bytes that wrap around
pub ring_prefix_left : (n m : ℕ) (old : Ring) → old.end - old.start ≤ n → n ≤ m → DoesNotWrap m old → (m - n ≤ old.front - (n - (old.end - old.start))) ⊎ ((n - (old.end - old.start) ≡ old.front) × (m - n ≤ 0))
ring_prefix_left n m old more le at = elim at [ inl main ↦ inl (omega (arith, more, le, main)) | inr front ↦ inl (omega (arith, more, le, front.0, front.1)) ]

pub ring_single : (n : ℕ) (r : Ring) → r.end - r.start ≤ n → DoesNotWrap n r → (r.start ≡ r.end) ⊎ (n - (r.end - r.start) ≡ 0)
ring_single n r more at = elim at [ inl main ↦ inr (omega (arith, more, main)) | inr front ↦ inl front.0 ]

-- bytes of the overflow buffer are consumed
pub overflow_left : (n m : ℕ) (old : ReadBuffer) → n ≤ overflow_len old - old.overflow_start → n ≤ m → IsContiguous m old → (m - n ≤ overflow_len old - (old.overflow_start + n)) ⊎ ((old.overflow_start + n ≡ overflow_len old) × DoesNotWrap (m - n) old.ring)
overflow_left n m old within le at = elim at [
  | inl part ↦ inl (omega (arith, within, le, part))
  | inr rest ↦ inr (omega (arith, within, rest.0), wraps_less (m - n) m old.ring (omega arith) rest.1)
]

-- the rest of the overflow buffer is consumed, and then k bytes of the ring
pub ring_left : (n m k to : ℕ) (old : ReadBuffer) (ring : Ring) → n ≡ (overflow_len old - old.overflow_start) + k → to ≡ overflow_len old → ((j : ℕ) → k ≤ j → DoesNotWrap j old.ring → DoesNotWrap (j - k) ring) → n ≤ m → IsContiguous m old → (m - n ≤ overflow_len old - to) ⊎ ((to ≡ overflow_len old) × DoesNotWrap (m - n) ring)
ring_left n m k to old ring sum end keeps le at = elim at [
  | inl part ↦ inl (omega (arith, sum, end, le, part))
  | inr rest ↦ inr (end, wraps_less (m - n) (m - k) ring (omega (arith, sum, rest.0)) (keeps m (omega (arith, sum, le)) rest.1))
]

pub span_single : (n k : ℕ) (h : ReadBuffer) (p : BufferRange) → n ≡ (overflow_len h - h.overflow_start) + k → 0 < k → p.overflow_from ≡ h.overflow_start → p.overflow_to ≡ overflow_len h → (DoesNotWrap k h.ring → (p.ring_start ≡ p.ring_end) ⊎ (p.ring_front ≡ 0)) → IsContiguous n h → IsSpanSingle p
span_single n k h p sum some from to ring at = elim at [
  | inl part ↦ absurd (omega (arith, sum, some, part))
  | inr rest ↦
      let over : p.overflow_from ≡ p.overflow_to = from ∙ rest.0 ∙ sym to in
      elim (ring (wraps_less k n h.ring (omega (arith, sum)) rest.1)) [ inl main ↦ inl (main, inl over) | inr front ↦ inr (over, front) ]
]

-- a span with bytes that wrap around is single only if it has no bytes before them
pub prefix_alone : (p : BufferRange) → 0 < p.ring_front → IsSpanSingle p → p.ring_start ≡ p.ring_end
prefix_alone p some one = elim one [ inl main ↦ main.0 | inr over ↦ absurd (omega (arith, some, over.1)) ]

-- a range from an index to itself has no items
pub range_empty : (xs : List ℕ) (s e : ℕ) → s ≡ e → length (slice_range xs s e) ≡ 0
range_empty xs s e same = let none : e - s ≡ 0 = omega (arith, same) in ap (λ k. length (take k (drop s xs))) none

-- a consumed overflow buffer is emptied
pub emptied_contiguous : (m len : ℕ) (old : ReadBuffer) → IsOverflowConsumed old → len ≡ 0 → IsContiguous m old → (m ≤ len - 0) ⊎ ((0 ≡ len) × DoesNotWrap m old.ring)
emptied_contiguous m len old used none at = elim at [ inl part ↦ inl (omega (arith, part, used)) | inr rest ↦ inr (sym none, rest.1) ]
