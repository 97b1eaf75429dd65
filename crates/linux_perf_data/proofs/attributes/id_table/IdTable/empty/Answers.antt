use Rattle.std.proofs.Common.{◌∙◌, ap}
use Rattle.linux_perf_data.specs.IdPairs.{index_of_id}
use Rattle.linux_perf_data.proofs.IdTableInserts.{none_late}
use Rattle.linux_perf_data.proofs.attributes.id_table.IdTable.empty.Goals as goal

pub returns : goal.returns
returns c = λ id. none_late c.new-2.result.items c.new.result c.new.ensures.empty id ∙ ap (index_of_id id) c.new-2.ensures.items
