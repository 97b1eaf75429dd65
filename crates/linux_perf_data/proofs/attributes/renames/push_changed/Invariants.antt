use Rattle.linux_perf_data.proofs.RenameLemmas.{RenamesVisited}
use Rattle.linux_perf_data.proofs.attributes.renames.push_changed.Given as goal

abbrev pub invariant-ids : goal.invariant-ids
invariant-ids l = RenamesVisited l.attributes l.listed l.old l.new l.id-iterator l.initial.renames.items l.renames.items
