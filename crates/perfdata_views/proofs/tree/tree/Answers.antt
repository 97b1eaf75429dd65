use Rattle.std.proofs.Common.{List, subst}
use Rattle.perfdata_views.specs.Trees.{ArePositions, IsTree, names_of}
use Rattle.perfdata_views.specs.declared.tree.RankedStack.{RankedStack}
use Rattle.perfdata_views.proofs.tree.tree.Goals as goal

pub returns : goal.returns
returns c = record {
  are = c.sort_stacks.ensures.permutation;
  ascend = c.in_ok-sort_stacks.ensures.ok;
  are_positions = subst (λ (s : List RankedStack). ArePositions s c.in_ok-positions.positions.items) c.as_slice.ensures.value c.in_ok-positions.ensures;
  is_tree = subst (λ (s : List RankedStack). IsTree (names_of s) c.in_ok-nodes.nodes.items) c.as_slice-2.ensures.value c.in_ok-nodes.ensures;
}
