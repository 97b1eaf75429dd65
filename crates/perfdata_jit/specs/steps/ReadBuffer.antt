-- Steps of private functions: the bytes in the overflow buffer and the ring.
use Rattle.std.specs.Prelude.{◌≡◌, ℕ, ◌-◌, ◌<◌, ◌≤◌, ◌⊎◌, List, ◌++◌, take, drop, slice_range}
use Rattle.perfdata_jit.specs.declared.read_buffer.ReadBuffer.{ReadBuffer}
use Rattle.perfdata_jit.specs.declared.read_buffer.BufferRange.{BufferRange}
use Rattle.perfdata_jit.specs.ReadBuffer.{read_buffer_bytes, overflow_len, overflow_capacity, IsOverflowConsumed, IsContiguous, ring_capacity}

-- The first n bytes are consumed, and the sizes of the buffers are unchanged. An overflow buffer no longer than n is
-- consumed completely.
pub record ConsumesPrefix (n : ℕ) (old new : ReadBuffer) : Type 0 where
  pub bytes : read_buffer_bytes new ≡ drop n (read_buffer_bytes old)
  pub overflow_size : overflow_len new ≡ overflow_len old
  pub overflow_consumed : overflow_len old ≤ n → IsOverflowConsumed new
  pub overflow_capacity : overflow_capacity new ≡ overflow_capacity old
  pub ring_capacity : ring_capacity new ≡ ring_capacity old
  pub keeps_contiguous : (m : ℕ) → n ≤ m → IsContiguous m old → IsContiguous (m - n) new

-- the span is within the buffers, and at most two of its three ranges are nonempty
pub record IsSpanWithin (h : ReadBuffer) (p : BufferRange) : Type 0 where
  pub overflow_order : p.overflow_from ≤ p.overflow_to
  pub overflow_within : p.overflow_to ≤ overflow_len h
  pub ring_order : p.ring_start ≤ p.ring_end
  pub ring_within : p.ring_end ≤ ring_capacity h
  pub front_within : p.ring_front ≤ ring_capacity h
  pub two_pieces : 0 < p.ring_front → p.overflow_from ≡ p.overflow_to

-- at most one of the three ranges is nonempty
abbrev pub IsSpanSingle : BufferRange → Type 0
IsSpanSingle p =
    ((p.ring_start ≡ p.ring_end) × ((p.overflow_from ≡ p.overflow_to) ⊎ (p.ring_front ≡ 0))) ⊎ ((p.overflow_from ≡ p.overflow_to) × (p.ring_front ≡ 0))

-- the bytes of a span
abbrev pub span_bytes : ReadBuffer → BufferRange → List ℕ
span_bytes h p = slice_range h.overflow.items p.overflow_from p.overflow_to
    ++ (slice_range h.ring.buffer.items p.ring_start p.ring_end ++ take p.ring_front h.ring.buffer.items)
