use Rattle.std.proofs.Common.{◌+◌, ◌-◌, length}
use Rattle.perfdata_arrays.proofs.MetaPairsLemmas.{PairsWritten}
use Rattle.perfdata_arrays.proofs.meta_info.meta_info.Given as goal

abbrev pub invariant-pairs : goal.invariant-pairs
invariant-pairs l = PairsWritten l.section l.offset l.count l.initial.entries l.entries

abbrev pub decreases-pairs : goal.decreases-pairs
decreases-pairs l = length l.section + 1 - l.offset
