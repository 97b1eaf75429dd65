use Rattle.std.proofs.Common.{◌-◌}
use Rattle.linux_perf_data.proofs.IdPairLemmas.{Halved}
use Rattle.linux_perf_data.proofs.attributes.id_table.IdTable.insertion_point.Given as goal

abbrev pub invariant-halving : goal.invariant-halving
invariant-halving l = Halved l.self.pairs.items l.id l.low l.high

abbrev pub decreases-halving : goal.decreases-halving
decreases-halving l = l.high - l.low
