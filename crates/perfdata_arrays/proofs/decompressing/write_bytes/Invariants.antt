use Rattle.perfdata_arrays.specs.steps.Written.{WritesMore}
use Rattle.perfdata_arrays.proofs.decompressing.write_bytes.Given as goal

abbrev pub invariant-loop : goal.invariant-loop
invariant-loop g l = WritesMore l.initial.size l.initial.array l.size l.array
