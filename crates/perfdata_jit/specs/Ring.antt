-- The bytes of a ring.
use Rattle.std.specs.Prelude.{◌≡◌, ℕ, ◌+◌, ◌-◌, ◌≤◌, ◌⊎◌, List, ◌++◌, take, slice_range, vec_len}
use Rattle.perfdata_jit.specs.declared.ring.Ring.{Ring}

-- the bytes, in order
abbrev pub ring_bytes : Ring → List ℕ
ring_bytes r = slice_range r.buffer.items r.start r.end ++ take r.front r.buffer.items

-- the first n bytes are in one piece: none of them wraps around the end of the buffer
abbrev pub DoesNotWrap : ℕ → Ring → Type 0
DoesNotWrap n r = (n ≤ r.end - r.start) ⊎ ((r.start ≡ r.end) × (n ≤ r.front))

-- the capacity
abbrev pub ring_size : Ring → ℕ
ring_size r = vec_len r.buffer
