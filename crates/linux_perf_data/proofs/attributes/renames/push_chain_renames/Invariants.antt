use Rattle.linux_perf_data.proofs.RenameLemmas.{RenamedFrom, rank}
use Rattle.linux_perf_data.proofs.attributes.renames.push_chain_renames.Given as goal

abbrev pub invariant-chain : goal.invariant-chain
invariant-chain l = RenamedFrom l.attributes l.table l.id l.next l.initial.renames.items l.renames.items

abbrev pub decreases-chain : goal.decreases-chain
decreases-chain l = rank l.next
