-- What is found at an address.
use Rattle.std.proofs.Common.{◌≡◌, ◌<◌, ◌^◌, refl, sym, arith, ℕ, ℤ, zero, suc, List, [], ◌∷◌, length, Option, None, Some, IfSome, slice_get}
use Rattle.std.specs.Option.{option_map, option_or}
use Rattle.perfdata_events.specs.declared.fields.call_chain.CallContext.{CallContext}
use Rattle.perfdata_events.specs.declared.fields.call_chain.CallContext.TheVariants.{Hypervisor, Kernel, User, Guest, GuestKernel, GuestUser, Unknown}
use Rattle.perfdata_spaces.specs.AddressSpaces.{Follows, FindsIndex, mapping_at, mapping_values, space_effects}
use Rattle.perfdata_spaces.specs.Effects.{Applied}
use Rattle.perfdata_spaces.specs.Mappings.{MappingValue}
use Rattle.perfdata_spaces.specs.Histories.{IndexedMapping, IsFound, IsFoundMapping}
use Rattle.perfdata_spaces.specs.Spaces.{IsIndexOf, indexed_at, values_of}
use Rattle.perfdata_spaces.specs.steps.Spaces.{index_at}
use Rattle.perfdata_spaces.specs.declared.address_spaces.AddressSpaces.{AddressSpaces}

index_found : (spaces : AddressSpaces) (index : Option ℕ) (found : Option IndexedMapping) → IsIndexOf (values_of spaces.spaces) index found → indexed_at (values_of spaces.spaces) index ≡ found
index_found spaces None found is = sym is
index_found spaces (Some index) found is = is.1

index_within : (mappings : List MappingValue) (index : Option ℕ) (found : Option IndexedMapping) → IsIndexOf mappings index found → IfSome index (λ i. i < length mappings)
index_within mappings None found is = tt
index_within mappings (Some index) found is = is.0

not_past : {A B : Type 0} → (f : A → B) (xs : List A) (index : ℕ) → index < length xs → option_map f (slice_get xs index) ≡ None → ⊥
not_past f [] index within none = omega arith
not_past f (x ∷ xs) zero within none = cc
not_past f (x ∷ xs) (suc index) within none = not_past f xs index (omega arith) none

index_or : (mappings : List MappingValue) (first second : Option ℕ) (found other : Option IndexedMapping) → IsIndexOf mappings first found → IsIndexOf mappings second other → IsIndexOf mappings (option_or first second) (option_or found other)
index_or mappings None second found other is is_other = rw is is_other
index_or mappings (Some index) second (Some mapping) other is is_other = is
index_or mappings (Some index) second None other is is_other = absurd (not_past _ mappings index is.0 is.1)

mapping_of : (index : ℕ) (found : Option MappingValue) → found ≡ option_map (λ (f : IndexedMapping). f.mapping) (option_map (λ mapping. record { index = index; mapping = mapping }) found)
mapping_of index None = refl
mapping_of index (Some mapping) = refl

mapping_is : (spaces : AddressSpaces) (index : Option ℕ) → mapping_at spaces index ≡ option_map (λ (f : IndexedMapping). f.mapping) (indexed_at (mapping_values spaces) index)
mapping_is spaces None = refl
mapping_is spaces (Some index) = mapping_of index (slice_get (mapping_values spaces) index)

found_mapping : (records : List Applied) (spaces : AddressSpaces) (pid : ℤ) (address : ℕ) (context : CallContext) (index : Option ℕ) → IsFound (space_effects records) pid address context (indexed_at (mapping_values spaces) index) → IsFoundMapping (space_effects records) pid address context (mapping_at spaces index)
found_mapping records spaces pid address context index found = (indexed_at (mapping_values spaces) index, found, mapping_is spaces index)

pub finds : (records : List Applied) (spaces : AddressSpaces) (pid : ℤ) (address : ℕ) (context : CallContext) → address < 2 ^ 64 → Follows records spaces → FindsIndex records spaces pid address context (index_at spaces.spaces pid address context)
finds records spaces pid address User fits follows =
    let process = follows.spaces_follow.processes pid in
    let found : IsFound (space_effects records) pid address User (indexed_at (mapping_values spaces) (index_at spaces.spaces pid address User)) = (process.history, process.is, index_found spaces _ _ (process.finds address fits)) in
    record {
      found = found;
      mapping = found_mapping records spaces pid address User _ found;
      within = index_within (values_of spaces.spaces) _ _ (process.finds address fits);
    }
finds records spaces pid address Kernel fits follows =
    let either = index_or (values_of spaces.spaces) _ _ _ _ (follows.spaces_follow.symbols address fits) (follows.spaces_follow.kernel address fits) in
    record {
      found = index_found spaces _ _ either;
      mapping = found_mapping records spaces pid address Kernel _ (index_found spaces _ _ either);
      within = index_within (values_of spaces.spaces) _ _ either;
    }
finds records spaces pid address Hypervisor fits follows = record { found = refl; mapping = found_mapping records spaces pid address Hypervisor None refl; within = tt }
finds records spaces pid address Guest fits follows = record { found = refl; mapping = found_mapping records spaces pid address Guest None refl; within = tt }
finds records spaces pid address GuestKernel fits follows = record { found = refl; mapping = found_mapping records spaces pid address GuestKernel None refl; within = tt }
finds records spaces pid address GuestUser fits follows = record { found = refl; mapping = found_mapping records spaces pid address GuestUser None refl; within = tt }
finds records spaces pid address Unknown fits follows = record { found = refl; mapping = found_mapping records spaces pid address Unknown None refl; within = tt }
