-- Steps of private functions: a block of bodies, and which blocks are spare.
use Rattle.std.specs.Prelude.{◌≡◌, ◌≢◌, ℕ, ◌+◌, ◌-◌, ◌^◌, ◌<◌, ◌≤◌, ◌==◌, ◌⊎◌, Bool, true, false, List, [], ◌++◌, length, Result, Ok, Err, min, vec_capacity, if◌then◌else◌}
use Rattle.std.specs.declared.alloc.AllocError.{AllocError}
use Rattle.perfdata_order.specs.declared.bodies.Block.{Block}
use Rattle.std.specs.declared.snapshot.Snapshot.{Snapshot}
use Rattle.std.specs.Prelude.{Vec}
use Rattle.std.specs.declared.alloc.Global.{Global}
use Rattle.perfdata_order.specs.Blocks.{bytes_by, held_by}

-- A body of this length fits: the block is empty, or 65,536 bytes are enough.
pub record Fits (b : Block) (len : ℕ) : Type 0 where
  pub countable : b.held < 2 ^ 64 - 1
  pub in_capacity : (length b.bytes.items ≡ 0) ⊎ (length b.bytes.items + len ≤ 65536)

abbrev pub FitsNot : Block → ℕ → Type 0
FitsNot b len = (2 ^ 64 - 1 ≤ b.held) ⊎ ((0 < length b.bytes.items) × (65536 < length b.bytes.items + len))

abbrev pub TestsCapacity : Block → ℕ → Bool → Type 0
TestsCapacity b len true = Fits b len
TestsCapacity b len false = FitsNot b len

pub record Appended (old : Block) (body : List ℕ) (at_end : ℕ) (shown : Snapshot (Vec ℕ Global)) (new : Block) : Type 0 where
  pub bytes : new.bytes.items ≡ old.bytes.items ++ body
  pub shows : shown.value.items ≡ old.bytes.items ++ body
  pub held : new.held ≡ old.held + 1
  pub ends : at_end ≡ length old.bytes.items + length body

abbrev pub AppendsTo : Block → List ℕ → Result (ℕ × Snapshot (Vec ℕ Global)) AllocError → Block → Type 0
AppendsTo old body (Ok found) new = Appended old body found.0 found.1 new
AppendsTo old body (Err e) new = (new.bytes.items ≡ old.bytes.items) × (new.held ≡ old.held)

-- A block without held bodies is emptied. Its capacity doesn't grow, and stays that of a block if it was that at least.
pub record Cleared (old new : Block) : Type 0 where
  pub none : old.held ≡ 0
  pub none_after : new.held ≡ 0
  pub bytes : new.bytes.items ≡ []
  pub no_more : vec_capacity new.bytes ≤ vec_capacity old.bytes
  pub enough : min 65536 (vec_capacity old.bytes) ≤ vec_capacity new.bytes

abbrev pub IsCleared : Block → Bool → Block → Type 0
IsCleared old true new = Cleared old new
IsCleared old false new = (new ≡ old) × (0 < old.held)

abbrev pub WasLast : Block → Bool → Type 0
WasLast old true = old.held ≡ 1
WasLast old false = old.held ≢ 1

pub record ReleasesFrom (old : Block) (is_last : Bool) (new : Block) : Type 0 where
  pub bytes : new.bytes.items ≡ old.bytes.items
  pub held : new.held ≡ old.held - 1
  pub was_last : WasLast old is_last

-- ---- all blocks

-- The same bodies are held.
abbrev pub KeepsHeld : List Block → List Block → Type 0
KeepsHeld old new = (block : ℕ) → (held_by new block ≡ held_by old block) × (0 < held_by old block → bytes_by new block ≡ bytes_by old block)

-- One body fewer is held in this block. The bytes stay.
abbrev pub ReleasesHeld : List Block → ℕ → List Block → Type 0
ReleasesHeld old block new =
    (other : ℕ) → (held_by new other ≡ held_by old other - (if block == other then 1 else 0)) × (bytes_by new other ≡ bytes_by old other)
