-- The bytes in the overflow buffer and the ring.
use Rattle.std.specs.Prelude.{◌≡◌, ℕ, ◌-◌, ◌≤◌, ◌⊎◌, List, ◌++◌, drop, vec_len, vec_capacity}
use Rattle.perfdata_jit.specs.Ring.{DoesNotWrap, ring_bytes, ring_size}
use Rattle.perfdata_jit.specs.declared.read_buffer.ReadBuffer.{ReadBuffer}

-- the buffered bytes, in order
abbrev pub read_buffer_bytes : ReadBuffer → List ℕ
read_buffer_bytes h = drop h.overflow_start h.overflow.items ++ ring_bytes h.ring

-- the length of the overflow buffer, including its consumed prefix
abbrev pub overflow_len : ReadBuffer → ℕ
overflow_len h = vec_len h.overflow

-- the capacity of the overflow buffer
abbrev pub overflow_capacity : ReadBuffer → ℕ
overflow_capacity h = vec_capacity h.overflow

-- all bytes of the overflow buffer are consumed
abbrev pub IsOverflowConsumed : ReadBuffer → Type 0
IsOverflowConsumed h = h.overflow_start ≡ overflow_len h

-- the first n bytes are in one piece: in the overflow buffer, or in the ring without wrapping around its end
abbrev pub IsContiguous : ℕ → ReadBuffer → Type 0
IsContiguous n h = (n ≤ overflow_len h - h.overflow_start) ⊎ (IsOverflowConsumed h × DoesNotWrap n h.ring)

-- the capacity of the ring
abbrev pub ring_capacity : ReadBuffer → ℕ
ring_capacity h = ring_size h.ring
