use Rattle.linux_perf_data.proofs.NameTables.{PutFrom}
use Rattle.linux_perf_data.proofs.attributes.names.index_first_ids.Given as goal

abbrev pub invariant-events : goal.invariant-events
invariant-events l = PutFrom l.first l.events l.index

abbrev pub decreases-events : goal.decreases-events
decreases-events l = l.index
