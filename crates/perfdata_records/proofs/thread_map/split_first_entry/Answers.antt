use Rattle.std.proofs.Common.{arith, rules}
use Rattle.std.proofs.lemmas.Grind.{common_steps}
use Rattle.perfdata_records.proofs.thread_map.split_first_entry.Goals as goal

pub returns-in-Ok-split_off_prefix-clause-entry : goal.returns-in-Ok-split_off_prefix-clause-entry
returns-in-Ok-split_off_prefix-clause-entry c = search rules

pub returns-in-Ok-split_off_prefix-clause-rest : goal.returns-in-Ok-split_off_prefix-clause-rest
returns-in-Ok-split_off_prefix-clause-rest c = grind (arith, common_steps)
