use Rattle.perfdata_simpleperf.specs.MetaInfoPairs.{remaining_pairs}
use Rattle.perfdata_simpleperf.proofs.MetaPairs.{PairsSoFar}
use Rattle.perfdata_simpleperf.proofs.simpleperf.meta_info.parse_meta_info_map.Given as goal

abbrev pub invariant-pairs : goal.invariant-pairs
invariant-pairs l = PairsSoFar l.bytes l.map (remaining_pairs l.key-iterator)
