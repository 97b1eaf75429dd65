-- The tree of stacks in any order.
use Rattle.std.specs.Prelude.{List}
use Rattle.std.specs.List.Sorted.{IsPermutation}
use Rattle.perfdata_views.specs.Trees.{ArePositions, Ascend, IsTree, names_of}
use Rattle.perfdata_views.specs.declared.tree.RankedStack.{RankedStack}
use Rattle.perfdata_views.specs.declared.tree.StackTree.{StackTree}

-- The stacks of a tree are the given ones, ascending. Its positions are the sums of their weights, and its nodes those of their names.
pub record IsStackTree (stacks : List RankedStack) (tree : StackTree) : Type 0 where
  pub are : IsPermutation stacks tree.stacks.items
  pub ascend : Ascend (names_of tree.stacks.items)
  pub are_positions : ArePositions tree.stacks.items tree.positions.items
  pub is_tree : IsTree (names_of tree.stacks.items) tree.nodes.items
