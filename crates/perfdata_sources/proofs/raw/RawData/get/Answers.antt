use Rattle.std.proofs.Common.{arith, rules}
use Rattle.std.proofs.lemmas.Grind.{common_steps}
use Rattle.perfdata_sources.proofs.raw.RawData.get.Goals as goal

pub returns-in-Some-checked_split_at-clause-within : goal.returns-in-Some-checked_split_at-clause-within
returns-in-Some-checked_split_at-clause-within c = grind (arith, common_steps)

pub returns-in-Some-checked_split_at-clause-bytes : goal.returns-in-Some-checked_split_at-clause-bytes
returns-in-Some-checked_split_at-clause-bytes c = search rules
