use Rattle.std.proofs.Common.{refl}
use Rattle.perfdata_identifiers.proofs.Caches.{cached_none}
use Rattle.perfdata_identifiers.proofs.place.id_cache.IdCache.clear.Goals as goal

pub returns : goal.returns
returns c = cached_none _ refl
