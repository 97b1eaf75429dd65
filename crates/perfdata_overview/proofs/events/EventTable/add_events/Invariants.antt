use Rattle.std.proofs.Common.{◌≡◌}
use Rattle.perfdata_overview.proofs.events.EventTable.add_events.Given as goal

abbrev pub invariant-loop-index : goal.invariant-loop-index
invariant-loop-index l = (l.self.selection ≡ l.initial.self.selection) × (l.self.samples ≡ l.initial.self.samples)
