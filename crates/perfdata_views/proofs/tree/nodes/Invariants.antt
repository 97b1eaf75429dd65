use Rattle.perfdata_views.specs.Trees.{names_of}
use Rattle.perfdata_views.specs.steps.Trees.{Grows}
use Rattle.perfdata_views.proofs.tree.nodes.Given as goal

abbrev pub invariant-stacks : goal.invariant-stacks
invariant-stacks l = Grows (names_of l.stacks) l.index l.last l.firsts.items l.nodes.items
