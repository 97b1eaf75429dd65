use Rattle.std.proofs.Common.{rules}
use Rattle.perfdata_identifiers.proofs.place.id_cache.IdCache.put.Goals as goal

pub returns-clause-stored : goal.returns-clause-stored
returns-clause-stored c = search rules
