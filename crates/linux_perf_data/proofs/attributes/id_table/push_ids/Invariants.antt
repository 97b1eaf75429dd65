use Rattle.std.proofs.Common.{◌≡◌, ◌++◌, take, map}
use Rattle.linux_perf_data.proofs.attributes.id_table.push_ids.Given as goal

abbrev pub invariant-ids : goal.invariant-ids
invariant-ids l = l.pairs.items ≡ l.initial.pairs.items ++ map (λ id. (id, l.index)) (take l.id-index l.ids)
