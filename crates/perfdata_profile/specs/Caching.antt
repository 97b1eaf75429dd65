-- What is cached.
use Rattle.std.specs.Prelude.{◌≡◌, ℕ, List, slice_get, Some}
use Rattle.perfdata_profile.specs.declared.cache.LocationCache.{LocationCache}
use Rattle.perfdata_profile.specs.declared.cache.MappedAddress.{MappedAddress}
use Rattle.perfdata_profile.specs.declared.locations.LocationId.{LocationId}

-- The addresses that are cached, with their locations.
abbrev pub cached_in : LocationCache → List (MappedAddress × LocationId)
cached_in cache = cache.ids.entries

-- Something holds of each address that is cached, and of its location.
abbrev pub AllCached : (MappedAddress → LocationId → Type 0) → LocationCache → Type 0
AllCached holds cache = (index : ℕ) (at : MappedAddress) (id : LocationId) → slice_get (cached_in cache) index ≡ Some (at, id) → holds at id
