use Rattle.std.proofs.Common.{◌≡◌}
use Rattle.perfdata_spaces.specs.Ranges.{value_at}
use Rattle.perfdata_spaces.proofs.ranges.Tree.get.Given as goal

abbrev pub invariant-boundaries : goal.invariant-boundaries
invariant-boundaries l = value_at l.tree l.fn.address ≡ value_at l.fn.self l.fn.address
