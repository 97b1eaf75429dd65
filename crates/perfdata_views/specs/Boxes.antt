-- The nodes of a tree as boxes: each as wide as the sum of its stacks, from the position of its first one.
use Rattle.std.specs.Prelude.{◌≡◌, ℕ, ◌+◌, ◌-◌, ◌<◌, ◌≤◌, ◌==◌, ◌&&◌, Bool, Contains, if◌then◌else◌, List, nat_le, nat_lt, slice_index_or}
use Rattle.std.specs.List.{sum_by}
use Rattle.perfdata_views.specs.StackTrees.{IsStackTree}
use Rattle.perfdata_views.specs.declared.tree.Node.{Node}
use Rattle.perfdata_views.specs.declared.tree.RankedStack.{RankedStack}
use Rattle.perfdata_views.specs.declared.tree.StackTree.{StackTree}

-- Where a box begins, where it ends, and its width.
abbrev pub left_of : List ℕ → Node → ℕ
left_of positions node = slice_index_or positions node.first 0

abbrev pub right_of : List ℕ → Node → ℕ
right_of positions node = slice_index_or positions node.end 0

abbrev pub width_of : List ℕ → Node → ℕ
width_of positions node = right_of positions node - left_of positions node

-- Whether a node is directly in another.
abbrev pub is_child : Node → Node → Bool
is_child parent node = (node.depth == parent.depth + 1) && (nat_le parent.first node.first && nat_lt node.first parent.end)

-- The sum of the widths of the boxes directly in a box.
abbrev pub children_width : List ℕ → List Node → Node → ℕ
children_width positions nodes parent = sum_by (λ (node : Node). if is_child parent node then width_of positions node else 0) nodes

-- The sum of the widths of the outermost boxes.
abbrev pub outermost_width : List ℕ → List Node → ℕ
outermost_width positions nodes = sum_by (λ (node : Node). if node.depth == 0 then width_of positions node else 0) nodes

-- Boxes are nested: a box that begins in one that is less deep is within it.
pub record AreNested (positions : List ℕ) (nodes : List Node) : Type 0 where
  pub wide : (node : Node) → Contains nodes node → left_of positions node ≤ right_of positions node
  pub within : (outer inner : Node) → Contains nodes outer → Contains nodes inner → outer.depth ≤ inner.depth → outer.first ≤ inner.first
      → inner.first < outer.end → (left_of positions outer ≤ left_of positions inner) × (right_of positions inner ≤ right_of positions outer)
  -- Boxes at one depth are beside each other, in order.
  pub beside : (one other : Node) → Contains nodes one → Contains nodes other → one.depth ≡ other.depth → one.first < other.first
      → right_of positions one ≤ left_of positions other
  -- Each box but the outermost is in one that is one less deep.
  pub parent : (node : Node) → Contains nodes node → 0 < node.depth
      → ((outer : Node) × Contains nodes outer × (outer.depth + 1 ≡ node.depth) × (outer.first ≤ node.first) × (node.end ≤ outer.end))
  -- The widths of the boxes directly in a box add up to at most its own.
  pub widths : (outer : Node) → Contains nodes outer → children_width positions nodes outer ≤ width_of positions outer

-- The boxes of a tree are nested.
abbrev pub BoxesNest : Type 0
BoxesNest = (stacks : List RankedStack) (tree : StackTree) → IsStackTree stacks tree → AreNested tree.positions.items tree.nodes.items
