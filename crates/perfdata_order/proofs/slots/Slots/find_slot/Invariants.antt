use Rattle.perfdata_order.specs.steps.Slots.{AreFilled}
use Rattle.perfdata_order.proofs.slots.Slots.find_slot.Given as goal

abbrev pub invariant-slots : goal.invariant-slots
invariant-slots g l = AreFilled l.self l.start l.slot
