-- What is found in a cache.
use Rattle.std.proofs.Common.{◌≡◌, ◌∙◌, ◌⊎◌, inl, inr, ap, refl, sym, ℕ, List, slice_get, Option, None, Some, IfSome}
use Rattle.indexmap.specs.IndexMap.{insert_entry}
use Rattle.std.specs.Map.{lookup}
use Rattle.perfdata_profile.specs.declared.cache.MappedAddress.{MappedAddress}
use Rattle.perfdata_profile.specs.declared.locations.LocationId.{LocationId}
use Rattle.perfdata_profile.proofs.Deciding.{address-Decides, eq_address}
use Rattle.perfdata_profile.proofs.Searching.{inserted_entry, some_found}

pub found_cached : (es : List (MappedAddress × LocationId)) (at : MappedAddress) (result : Option LocationId) → result ≡ lookup (eq_address at) es → IfSome result (λ id. ((index : ℕ) × (slice_get es index ≡ Some (at, id))))
found_cached es at None is = tt
found_cached es at (Some id) is =
    let entry = some_found (eq_address at) es id (sym is) in
    (entry.0, entry.2 ∙ ap (λ (k : MappedAddress). Some (k, id)) (sym ((address-Decides at entry.1).0 entry.3)))

pub added_cached : (es new : List (MappedAddress × LocationId)) (at : MappedAddress) (id : LocationId) → new ≡ insert_entry eq_address es at id → (index : ℕ) (key : MappedAddress) (value : LocationId) → slice_get new index ≡ Some (key, value) → (slice_get es index ≡ Some (key, value)) ⊎ ((key ≡ at) × (value ≡ id))
added_cached es new at id is index key value found = elim (inserted_entry eq_address (λ k. (address-Decides k k).1 refl) es at id index key value (ap (λ l. slice_get l index) (sym is) ∙ found)) [
  | inl was ↦ inl was
  | inr added ↦ inr (sym ((address-Decides at key).0 added.0), added.1)
]
