-- Stacks of names as a tree.
use Rattle.std.specs.Prelude.{◌≡◌, ℕ, ◌+◌, ◌<◌, ◌≤◌, ◌⊎◌, false, All, AllPairs, Contains, List, [], length, map, slice_index_or, take}
use Rattle.std.specs.Cmp.Lexicographic.{slice_cmp}
use Rattle.std.specs.List.{sum_by}
use Rattle.std.specs.Ordering.{is_lt, nat_cmp}
use Rattle.perfdata_views.specs.declared.tree.RankedStack.{RankedStack}
use Rattle.perfdata_views.specs.declared.tree.Node.{Node}

-- The names of a stack, the root's first.
abbrev pub names_at : List (List ℕ) → ℕ → List ℕ
names_at stacks index = slice_index_or stacks index []

-- The names of stacks.
abbrev pub names_of : List RankedStack → List (List ℕ)
names_of stacks = map (λ (stack : RankedStack). stack.ranks.items) stacks

abbrev pub stack_weight : RankedStack → ℕ
stack_weight stack = stack.weight

-- Positions are the sums of the weights of the first stacks.
pub record ArePositions (stacks : List RankedStack) (positions : List ℕ) : Type 0 where
  pub count : length positions ≡ length stacks + 1
  pub each : (index : ℕ) → index ≤ length stacks → slice_index_or positions index 0 ≡ sum_by stack_weight (take index stacks)

-- A list of names is before another in the order of their names, or is the same.
abbrev pub IsAtMost : List ℕ → List ℕ → Type 0
IsAtMost names others = is_lt (slice_cmp nat_cmp others names) ≡ false

-- Stacks ascend by their names.
abbrev pub Ascend : List (List ℕ) → Type 0
Ascend stacks = (first second : ℕ) → first ≤ second → second < length stacks → IsAtMost (names_at stacks first) (names_at stacks second)

-- The names from the root to a node, its own last.
abbrev pub path_of : List (List ℕ) → Node → List ℕ
path_of stacks node = take (node.depth + 1) (names_at stacks node.first)

-- The stacks of a node are those that start with the names of its path.
pub record IsNode (stacks : List (List ℕ)) (node : Node) : Type 0 where
  pub begins : node.first < node.end
  pub ends : node.end ≤ length stacks
  pub has_name : node.depth < length (names_at stacks node.first)
  pub inside : (index : ℕ) → node.first ≤ index → index < node.end → take (node.depth + 1) (names_at stacks index) ≡ path_of stacks node
  pub outside : (index : ℕ) → index < length stacks → take (node.depth + 1) (names_at stacks index) ≡ path_of stacks node
      → (node.first ≤ index) × (index < node.end)

-- A node has the name of a stack at a depth.
pub record Holds (node : Node) (index depth : ℕ) : Type 0 where
  pub depth_is : node.depth ≡ depth
  pub from : node.first ≤ index
  pub until : index < node.end

-- A node ends before another, or is in it.
abbrev pub Precedes : Node → Node → Type 0
Precedes node next = (node.end < next.end) ⊎ ((node.end ≡ next.end) × (next.depth < node.depth))

-- Nodes are those of the tree of stacks: each name of each stack is that of one node. A node follows those in it.
pub record IsTree (stacks : List (List ℕ)) (nodes : List Node) : Type 0 where
  pub each : All (IsNode stacks) nodes
  pub all : (index depth : ℕ) → index < length stacks → depth < length (names_at stacks index)
      → ((node : Node) × Contains nodes node × Holds node index depth)
  pub ordered : AllPairs Precedes nodes
