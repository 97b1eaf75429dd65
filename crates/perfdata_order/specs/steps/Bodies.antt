-- Steps of private functions: the bodies of held records: the bytes of each block, and how many of its bodies are held.
use Rattle.std.specs.Prelude.{◌≡◌, ℕ, ◌+◌, ◌-◌, ◌^◌, ◌<◌, ◌≤◌, ◌==◌, ◌⊎◌, Bool, true, false, List, ◌++◌, length, Result, Ok, Err, if◌then◌else◌}
use Rattle.std.specs.declared.alloc.AllocError.{AllocError}
use Rattle.perfdata_order.specs.declared.bodies.HeldBody.{HeldBody}
use Rattle.perfdata_order.specs.declared.bodies.Bodies.{Bodies}
use Rattle.perfdata_order.specs.Blocks.{vacancy_in}
use Rattle.perfdata_order.specs.steps.Blocks.{KeepsHeld, ReleasesHeld}
use Rattle.perfdata_order.specs.Bodies.{bytes_at, held_at, body_at, body_in, block_count}

abbrev pub HoldsNone : Bodies → Type 0
HoldsNone s = (block : ℕ) → held_at s block ≡ 0

-- A body can be appended to the current block.
abbrev pub CanAppend : Bodies → Type 0
CanAppend s = (s.current < length s.blocks.items) × (held_at s s.current < 2 ^ 64 - 1)

-- The same bodies are held.
abbrev pub KeepsBodies : Bodies → Bodies → Type 0
KeepsBodies old new = KeepsHeld old.blocks.items new.blocks.items

-- A body is held in each block.
abbrev pub EachIsHeld : Bodies → Type 0
EachIsHeld s = (block : ℕ) → block < block_count s → 0 < held_at s block

-- A body of this length doesn't fit in the current block, or there is none.
abbrev pub IsCurrentFull : Bodies → ℕ → Type 0
IsCurrentFull s len =
    (block_count s ≤ s.current) ⊎ ((2 ^ 64 - 1 ≤ held_at s s.current) ⊎ ((0 < length (bytes_at s s.current)) × (65536 < length (bytes_at s s.current) + len)))

abbrev pub TestsCurrent : Bodies → ℕ → Bool → Type 0
TestsCurrent s len true = CanAppend s
TestsCurrent s len false = IsCurrentFull s len

-- A body is held in the current block, if there is one.
abbrev pub IsCurrentHeld : Bodies → Type 0
IsCurrentHeld s = vacancy_in s.blocks.items s.current ≡ 0

-- No block is added.
pub record Reused (old new : Bodies) : Type 0 where
  pub kept : KeepsBodies old new
  pub can_append : CanAppend new
  pub same_blocks : block_count new ≡ block_count old

pub record SameBlocks (old new : Bodies) : Type 0 where
  pub blocks : new.blocks.items ≡ old.blocks.items
  pub current : new.current ≡ old.current

abbrev pub ReusesCurrent : Bodies → Bool → Bodies → Type 0
ReusesCurrent old true new = Reused old new
ReusesCurrent old false new = SameBlocks old new × IsCurrentHeld new

abbrev pub ReusesSpare : Bodies → Bool → Bodies → Type 0
ReusesSpare old true new = Reused old new
ReusesSpare old false new = SameBlocks old new × EachIsHeld new

-- One block is added, which is then the current one.
pub record BlockAdded (old new : Bodies) : Type 0 where
  pub kept : KeepsBodies old new
  pub can_append : CanAppend new
  pub one_more : block_count new ≡ block_count old + 1

abbrev pub AddsBlock : Bodies → Result (Unit {0}) AllocError → Bodies → Type 0
AddsBlock old (Ok done) new = BlockAdded old new
AddsBlock old (Err e) new = KeepsBodies old new × (block_count new ≡ block_count old)

abbrev pub MovesOn : Bodies → Result (Unit {0}) AllocError → Bodies → Type 0
MovesOn old (Ok done) new = Reused old new ⊎ (EachIsHeld old × BlockAdded old new)
MovesOn old (Err e) new = KeepsBodies old new × (block_count new ≡ block_count old)

-- A block is added only if a body is held in each, and the new body doesn't fit in the current one.
abbrev pub AddsBlockIfFull : Bodies → ℕ → Bodies → Type 0
AddsBlockIfFull old len new = (block_count new ≡ block_count old) ⊎ ((block_count new ≡ block_count old + 1) × (EachIsHeld old × IsCurrentFull old len))

abbrev pub IsPrefix : List ℕ → List ℕ → Type 0
IsPrefix xs ys = (more : List ℕ) × (ys ≡ xs ++ more)

-- One more body is held.
pub record BodyAppended (old : Bodies) (body : List ℕ) (appended : HeldBody) (new : Bodies) : Type 0 where
  pub held : (block : ℕ) → held_at new block ≡ held_at old block + (if appended.range.block == block then 1 else 0)
  pub kept : (block : ℕ) → 0 < held_at old block → IsPrefix (bytes_at old block) (bytes_at new block)
  pub is_body : body_in appended ≡ body
  pub at_range : body_at new appended.range ≡ body
  pub in_block : appended.range.end ≤ length (bytes_at new appended.range.block)

abbrev pub AppendsBody : Bodies → List ℕ → Result HeldBody AllocError → Bodies → Type 0
AppendsBody old body (Ok appended) new = BodyAppended old body appended new
AppendsBody old body (Err e) new = KeepsBodies old new

-- One body fewer is held in this block. The bytes stay.
abbrev pub ReleasesBody : Bodies → ℕ → Bodies → Type 0
ReleasesBody old block new = ReleasesHeld old.blocks.items block new.blocks.items
