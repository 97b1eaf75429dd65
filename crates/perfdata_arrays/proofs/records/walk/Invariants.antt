use Rattle.std.proofs.Common.{◌-◌, ◌^◌}
use Rattle.perfdata_arrays.proofs.WalkLemmas.{ReadSoFar}
use Rattle.perfdata_arrays.proofs.records.walk.Given as goal

abbrev pub invariant-records : goal.invariant-records
invariant-records l = record {
  so_far : ReadSoFar l.initial.input l.initial.perf_file l.fn.start l.initial.entries l.count l.input l.perf_file l.entries;
}

abbrev pub decreases-records : goal.decreases-records
decreases-records l = 2 ^ 64 - l.input.records.offset
