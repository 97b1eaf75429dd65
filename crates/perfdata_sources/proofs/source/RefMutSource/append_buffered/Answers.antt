use Rattle.std.proofs.Common.{rules}
use Rattle.perfdata_sources.proofs.source.RefMutSource.append_buffered.Goals as goal

pub returns-clause-appends : goal.returns-clause-appends
returns-clause-appends g c = search rules
