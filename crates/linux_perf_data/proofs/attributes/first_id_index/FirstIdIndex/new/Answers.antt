use Rattle.linux_perf_data.proofs.FirstIdIndexes.{index_none}
use Rattle.linux_perf_data.proofs.attributes.first_id_index.FirstIdIndex.new.Goals as goal

pub returns : goal.returns
returns c = λ lists. index_none _ lists c.new.ensures.empty c.new-2.ensures.items
