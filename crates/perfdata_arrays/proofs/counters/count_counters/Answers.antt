use Rattle.std.proofs.Common.{rules}
use Rattle.perfdata_arrays.proofs.CounterLemmas.{count_of_group}
use Rattle.perfdata_arrays.proofs.counters.count_counters.Goals as goal

pub returns-in-Some-Group : goal.returns-in-Some-Group
returns-in-Some-Group c = λ offset. search (rules, count_of_group c.in-Some-Group.group offset)
