-- Steps of private functions: stacks of names as a tree.
use Rattle.std.specs.Prelude.{◌≡◌, ◌≢◌, ℕ, ◌+◌, ◌-◌, ◌<◌, ◌≤◌, ◌⊎◌, All, AllPairs, Contains, List, [], ◌∷◌, ◌++◌, length, slice_index_or, take}
use Rattle.perfdata_views.specs.declared.tree.Node.{Node}
use Rattle.perfdata_views.specs.Trees.{names_at, IsNode, Holds, Precedes}

-- The number of names with which two lists start alike.
pub record IsShared (names others : List ℕ) (shared : ℕ) : Type 0 where
  pub within : (shared ≤ length names) × (shared ≤ length others)
  pub same : take shared names ≡ take shared others
  pub apart : shared < length names → shared < length others → slice_index_or names shared 0 ≢ slice_index_or others shared 0

-- The nodes that end before a stack: the innermost first. `firsts` are the first stacks of those from a depth on.
abbrev pub ended_nodes : (depth : ℕ) (firsts : List ℕ) (end : ℕ) → List Node
ended_nodes depth [] end = []
ended_nodes depth (first ∷ firsts) end = ended_nodes (depth + 1) firsts end ++ record { depth = depth; first = first; end = end } ∷ []

-- Some stacks were added. The nodes of the last one are open: `firsts` are their first stacks.
pub record Grows (stacks : List (List ℕ)) (count : ℕ) (last firsts : List ℕ) (nodes : List Node) : Type 0 where
  pub none : count ≡ 0 → last ≡ []
  pub last_is : 0 < count → last ≡ names_at stacks (count - 1)
  pub length_is : length firsts ≡ length last
  pub begun : (depth : ℕ) → depth < length firsts → slice_index_or firsts depth 0 < count
  pub opened : (depth index : ℕ) → depth < length firsts → index < count → slice_index_or firsts depth 0 ≤ index
      → take (depth + 1) (names_at stacks index) ≡ take (depth + 1) last
  pub only : (depth index : ℕ) → depth < length firsts → index < count
      → take (depth + 1) (names_at stacks index) ≡ take (depth + 1) last → slice_index_or firsts depth 0 ≤ index
  pub each : All (IsNode stacks) nodes
  pub all : (index depth : ℕ) → index < count → depth < length (names_at stacks index)
      → ((node : Node) × Contains nodes node × Holds node index depth) ⊎ ((depth < length firsts) × (slice_index_or firsts depth 0 ≤ index))
  pub ordered : AllPairs Precedes nodes
  pub before : All (λ (node : Node). node.end < count) nodes
