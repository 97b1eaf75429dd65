-- Held records: what each call does to them.
use Rattle.std.specs.Prelude.{ℕ, List}
use Rattle.perfdata_order.specs.declared.bodies.BodyRange.{BodyRange}
use Rattle.perfdata_order.specs.declared.held_records.HeldRecords.{HeldRecords}
use Rattle.perfdata_order.specs.Bodies.{body_at, block_count}

-- The number of blocks for bodies.
abbrev pub blocks_in : HeldRecords → ℕ
blocks_in s = block_count s.bodies

-- The body in this range.
abbrev pub body_of : HeldRecords → BodyRange → List ℕ
body_of s range = body_at s.bodies range
