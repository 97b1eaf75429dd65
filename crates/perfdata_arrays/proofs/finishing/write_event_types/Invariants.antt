use Rattle.perfdata_arrays.specs.steps.Written.{WritesMore}
use Rattle.perfdata_arrays.proofs.finishing.write_event_types.Given as goal

abbrev pub invariant-loop-index : goal.invariant-loop-index
invariant-loop-index l = WritesMore l.initial.size l.initial.array l.size l.array
