use Rattle.linux_perf_data.proofs.IdPairLemmas.{LastSoFar}
use Rattle.linux_perf_data.proofs.attributes.id_table.last_of_each.Given as goal

abbrev pub invariant-pairs : goal.invariant-pairs
invariant-pairs l = LastSoFar l.ordered l.last.items l.at
