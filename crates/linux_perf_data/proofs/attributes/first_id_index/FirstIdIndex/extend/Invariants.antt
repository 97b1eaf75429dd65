use Rattle.std.proofs.Common.{◌-◌, length}
use Rattle.linux_perf_data.specs.FirstIdIndex.{IndexesAttributes, id_lists_of}
use Rattle.linux_perf_data.proofs.attributes.first_id_index.FirstIdIndex.extend.Given as goal

abbrev pub invariant-attributes : goal.invariant-attributes
invariant-attributes l = IndexesAttributes l.self (id_lists_of l.attributes)

abbrev pub decreases-attributes : goal.decreases-attributes
decreases-attributes l = length l.attributes - length l.self.previous.items
