use Rattle.std.proofs.Common.{rules}
use Rattle.perfdata_sources.proofs.source.append.append_up_to.Goals as goal

pub returns-in-Ok-true-clause-appends : goal.returns-in-Ok-true-clause-appends
returns-in-Ok-true-clause-appends g c = search rules
