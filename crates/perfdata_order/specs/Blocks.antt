-- A block of bodies, and which blocks are spare.
use Rattle.std.specs.Prelude.{◌≡◌, ℕ, ◌-◌, ◌==◌, List, [], map, slice_index_or, if◌then◌else◌}
use Rattle.std.specs.List.{sum_by}
use Rattle.perfdata_order.specs.declared.bodies.Block.{Block}

-- ---- a block

abbrev pub bytes_in : Block → List ℕ
bytes_in b = b.bytes.items

abbrev pub held_in : Block → ℕ
held_in b = b.held

-- The bytes of a block.
abbrev pub bytes_by : List Block → ℕ → List ℕ
bytes_by blocks block = slice_index_or (map (λ b. bytes_in b) blocks) block []

-- How many bodies in a block are held.
abbrev pub held_by : List Block → ℕ → ℕ
held_by blocks block = slice_index_or (map (λ b. held_in b) blocks) block 0

-- ---- spare blocks

-- 1 if no body in the block is held.
abbrev pub vacancy_of : Block → ℕ
vacancy_of b = if b.held == 0 then 1 else 0

-- 1 if there is such a block, and no body in it is held.
abbrev pub vacancy_in : List Block → ℕ → ℕ
vacancy_in blocks block = slice_index_or (map (λ b. vacancy_of b) blocks) block 0

-- How often the block is in a list.
abbrev pub times_in : List ℕ → ℕ → ℕ
times_in spare block = sum_by (λ other. if other == block then 1 else 0) spare

-- Each block without held bodies but the current one is spare, once, and no other is.
abbrev pub AreSpare : List Block → ℕ → List ℕ → Type 0
AreSpare blocks current spare = (block : ℕ) → times_in spare block ≡ (if block == current then 0 else vacancy_in blocks block)
