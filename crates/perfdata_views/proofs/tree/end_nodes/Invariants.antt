use Rattle.std.proofs.Common.{◌≡◌, ◌≤◌, ◌++◌, drop}
use Rattle.perfdata_views.specs.steps.Trees.{ended_nodes}
use Rattle.perfdata_views.proofs.tree.end_nodes.Given as goal

abbrev pub invariant-depths : goal.invariant-depths
invariant-depths l = (l.from ≤ l.depth) × (l.nodes.items ≡ l.fn.nodes.items ++ ended_nodes l.depth (drop l.depth l.firsts) l.end)
