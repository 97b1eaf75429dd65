-- Lookups in an empty cache.
use Rattle.std.proofs.Common.{◌≡◌, ℕ, ◌%◌, ◌<◌, replicate, ap, arith, Option, None}
use Rattle.std.proofs.lemmas.List.{get_or-replicate}
use Rattle.perfdata_identifiers.specs.declared.place.id_cache.Pair.{Pair}
use Rattle.perfdata_identifiers.specs.declared.place.id_cache.IdCache.{IdCache}
use Rattle.perfdata_identifiers.specs.IdCache.{slot_index, cached_index}

-- a cache whose slots are empty contains no identifier
pub cached_none : (c : IdCache) → c.slots ≡ replicate 64 None → (id : ℕ) → cached_index c id ≡ None
cached_none c are id =
    let inside : id % 64 < 64 = omega arith in
    rw are (ap (λ o. slot_index o id) (get_or-replicate {A = Option Pair} 64 (id % 64) None None inside))
