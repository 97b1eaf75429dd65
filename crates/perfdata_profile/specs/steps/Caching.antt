-- Steps of private functions: what is cached.
use Rattle.std.specs.Prelude.{◌≡◌, ℕ, ◌⊎◌, slice_get, Some}
use Rattle.perfdata_profile.specs.declared.cache.LocationCache.{LocationCache}
use Rattle.perfdata_profile.specs.declared.cache.MappedAddress.{MappedAddress}
use Rattle.perfdata_profile.specs.declared.locations.LocationId.{LocationId}
use Rattle.perfdata_profile.specs.Caching.{cached_in}

-- A location is cached for an address.
abbrev pub IsCachedAt : LocationCache → MappedAddress → LocationId → Type 0
IsCachedAt cache at id = ((index : ℕ) × (slice_get (cached_in cache) index ≡ Some (at, id)))

-- What is cached was cached before, or is the location of an address.
abbrev pub AddsCached : LocationCache → MappedAddress → LocationId → LocationCache → Type 0
AddsCached old at id new = (index : ℕ) (key : MappedAddress) (value : LocationId) → slice_get (cached_in new) index ≡ Some (key, value)
    → (slice_get (cached_in old) index ≡ Some (key, value)) ⊎ ((key ≡ at) × (value ≡ id))
