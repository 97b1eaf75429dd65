use Rattle.linux_perf_data.proofs.RenameLemmas.{RenamesBelow}
use Rattle.linux_perf_data.proofs.attributes.renames.all_names.Given as goal

abbrev pub invariant-attributes : goal.invariant-attributes
invariant-attributes l = RenamesBelow l.attributes l.table l.index l.renames.items
