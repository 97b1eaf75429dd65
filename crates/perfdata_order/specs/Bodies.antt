-- The bodies of held records: the bytes of each block, and how many of its bodies are held.
use Rattle.std.specs.Prelude.{ℕ, ◌-◌, List, length, take, drop}
use Rattle.perfdata_order.specs.declared.bodies.BodyRange.{BodyRange}
use Rattle.perfdata_order.specs.declared.bodies.HeldBody.{HeldBody}
use Rattle.perfdata_order.specs.declared.bodies.Bodies.{Bodies}
use Rattle.perfdata_order.specs.Blocks.{bytes_by, held_by}

-- The bytes of a block.
abbrev pub bytes_at : Bodies → ℕ → List ℕ
bytes_at s block = bytes_by s.blocks.items block

-- How many bodies in a block are held.
abbrev pub held_at : Bodies → ℕ → ℕ
held_at s block = held_by s.blocks.items block

abbrev pub body_at : Bodies → BodyRange → List ℕ
body_at s range = drop range.start (take range.end (bytes_at s range.block))

-- The body, as it was appended.
abbrev pub body_in : HeldBody → List ℕ
body_in held = drop held.range.start (take held.range.end held.block.value.items)

-- The number of blocks.
abbrev pub block_count : Bodies → ℕ
block_count s = length s.blocks.items
