use Rattle.std.proofs.Common.{◌-◌, List, ℕ, length}
use Rattle.perfdata_arrays.specs.Jit.{WritesJitRecords}
use Rattle.perfdata_arrays.proofs.jit.jit_records.Given as goal

abbrev pub invariant-records : goal.invariant-records
invariant-records l = (raw_records : List (List ℕ)) × WritesJitRecords l.endian l.bytes l.initial.next raw_records l.initial.entries l.records l.next l.entries

abbrev pub decreases-records : goal.decreases-records
decreases-records l = length l.entries - l.records
