use Rattle.std.proofs.Common.{◌≡◌, ◌+◌, ◌≤◌, ℕ, get_or, length, take}
use Rattle.std.specs.List.{sum_by}
use Rattle.perfdata_views.specs.Trees.{stack_weight}
use Rattle.perfdata_views.proofs.tree.positions.Given as goal

abbrev pub invariant-stacks : goal.invariant-stacks
invariant-stacks l = record {
  position : l.position ≡ sum_by stack_weight (take l.stack-index l.stacks);
  count : length l.positions.items ≡ l.stack-index + 1;
  each : (index : ℕ) → index ≤ l.stack-index → get_or l.positions.items index 0 ≡ sum_by stack_weight (take index l.stacks);
}
