use Rattle.std.proofs.Common.{rules}
use Rattle.perfdata_sources.proofs.source.RefMutPlacedSource.seek_to.Goals as goal

pub returns-clause-seeks : goal.returns-clause-seeks
returns-clause-seeks g c = search rules
