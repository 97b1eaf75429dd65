use Rattle.std.proofs.Common.{◌≡◌, map, take}
use Rattle.perfdata_views.specs.FlameBoxes.{box_of}
use Rattle.perfdata_views.proofs.flame.boxes.boxes.Given as goal

abbrev pub invariant-nodes : goal.invariant-nodes
invariant-nodes l = l.boxes.items ≡ map (box_of l.tree.order.items l.tree.tree.stacks.items l.tree.tree.positions.items) (take l.node-index l.tree.tree.nodes.items)
