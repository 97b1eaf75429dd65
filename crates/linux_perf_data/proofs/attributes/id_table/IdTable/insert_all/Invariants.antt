use Rattle.std.proofs.Common.{take}
use Rattle.linux_perf_data.specs.steps.IdTable.{MapsIds}
use Rattle.linux_perf_data.proofs.attributes.id_table.IdTable.insert_all.Given as goal

abbrev pub invariant-ids : goal.invariant-ids
invariant-ids l = MapsIds l.initial.self (take l.id-index l.ids) l.index l.self
