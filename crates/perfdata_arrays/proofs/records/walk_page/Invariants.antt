use Rattle.std.proofs.Common.{◌≤◌, ◌-◌, length}
use Rattle.perfdata_arrays.proofs.WalkLemmas.{ReadSoFar}
use Rattle.perfdata_arrays.proofs.records.walk_page.Given as goal

abbrev pub invariant-records : goal.invariant-records
invariant-records l = record {
  count_fits : l.count ≤ length l.initial.entries;
  so_far : ReadSoFar l.initial.input l.initial.perf_file 0 l.initial.entries l.count l.input l.perf_file l.entries;
}

abbrev pub decreases-records : goal.decreases-records
decreases-records l = length l.initial.entries - l.count
