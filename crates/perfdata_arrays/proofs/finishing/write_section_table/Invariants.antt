use Rattle.perfdata_arrays.specs.steps.Written.{WritesMore}
use Rattle.perfdata_arrays.proofs.finishing.write_section_table.Given as goal

abbrev pub invariant-loop-section : goal.invariant-loop-section
invariant-loop-section l = WritesMore l.initial.size l.initial.array l.size l.array
