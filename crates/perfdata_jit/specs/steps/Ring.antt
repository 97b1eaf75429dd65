-- Steps of private functions: the bytes of a ring.
use Rattle.std.specs.Prelude.{ℕ, ◌+◌, ◌-◌}
use Rattle.perfdata_jit.specs.declared.ring.Ring.{Ring}

-- the number of bytes
abbrev pub ring_len : Ring → ℕ
ring_len r = (r.end - r.start) + r.front
