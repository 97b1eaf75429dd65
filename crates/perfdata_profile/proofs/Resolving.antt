-- Frames as they are resolved.
use Rattle.std.proofs.Common.{◌≡◌, ◌∙◌, ◌<◌, ap, refl, sym, subst, arith, inl, inr, ℕ, ℤ, List, length, slice_get, Option, None, Some, Result, Ok, Err, IfOk, IfSome, OnOk}
use Rattle.std.specs.Option.{option_map}
use Rattle.std.specs.declared.alloc.AllocError.{AllocError}
use Rattle.std.proofs.lemmas.Option.{slice_get_cases}
use Rattle.perfdata_profile.specs.Locating.{CacheHolds, IsNewLocation, LooksUp, located_lists}
use Rattle.perfdata_profile.specs.steps.Locating.{HasMapping, IsTime}
use Rattle.perfdata_profile.specs.Resolving.{FrameValue, Meaning}
use Rattle.perfdata_profile.specs.Samples.{IsLocationOf, Locates}
use Rattle.perfdata_profile.specs.Values.{LocationValue, location_at}
use Rattle.perfdata_profile.specs.declared.locating.Locator.{Locator}
use Rattle.perfdata_profile.specs.declared.locating.NewLocation.{NewLocation}
use Rattle.perfdata_profile.specs.declared.options.Detail.{Detail}
use Rattle.perfdata_profile.proofs.Elements.{some_same}
use Rattle.perfdata_profile.proofs.Growing.{nothing}
use Rattle.perfdata_profile.proofs.Valuing.{entry_at}
use Rattle.perfdata_spaces.specs.AddressSpaces.{FindsIndex, Follows, mapping_at, mapping_values}
use Rattle.perfdata_spaces.specs.Effects.{Applied}
use Rattle.perfdata_spaces.specs.Histories.{IndexedMapping}
use Rattle.perfdata_spaces.specs.Mappings.{MappingValue}
use Rattle.perfdata_spaces.specs.Spaces.{indexed_at}
use Rattle.perfdata_spaces.specs.declared.address_spaces.AddressSpaces.{AddressSpaces}
use Rattle.perfdata_stacks.specs.Frames.{lookup_address}
use Rattle.perfdata_stacks.specs.declared.frames.SampleFrame.{SampleFrame}

-- A mapping that is found by its index.
found_by_index : (mappings : List MappingValue) (index : Option ℕ) → IfSome index (λ i. i < length mappings) → (option_map (λ (f : IndexedMapping). f.index) (indexed_at mappings index) ≡ index)
found_by_index mappings None within = refl
found_by_index mappings (Some i) within = elim (slice_get_cases mappings i).1 [
  | inl there ↦ ap (λ (o : Option MappingValue). option_map (λ (f : IndexedMapping). f.index) (option_map (λ m. record { index = i; mapping = m }) o)) there.2
  | inr past ↦ absurd (omega (arith, within, past.0))
]

mapping_by_index : (spaces : AddressSpaces) (index : Option ℕ) → option_map (λ (f : IndexedMapping). f.mapping) (indexed_at (mapping_values spaces) index) ≡ mapping_at spaces index
mapping_by_index spaces None = refl
mapping_by_index spaces (Some i) = elim (slice_get (mapping_values spaces) i) as (λ (o : Option MappingValue). option_map (λ (f : IndexedMapping). f.mapping) (option_map (λ m. record { index = i; mapping = m }) o) ≡ o) [ None ↦ refl | Some m ↦ refl ]

abbrev pub value_of : ℤ → Option ℕ → SampleFrame → Option ℕ → Option MappingValue → FrameValue
value_of pid time frame index mapping = record { pid = pid; time = time; frame = frame; index = index; mapping = mapping }

-- A frame has the mapping with the index that is found.
has_mapping : (spaces : AddressSpaces) (index : Option ℕ) (mapping : Option MappingValue) (frame : FrameValue) → IfSome index (λ i. i < length (mapping_values spaces)) → mapping ≡ mapping_at spaces index → frame.index ≡ index → frame.mapping ≡ mapping → HasMapping (mapping_values spaces) frame
has_mapping spaces None mapping frame within is same_index same_mapping = λ i at. absurd (nothing i (sym same_index ∙ at))
has_mapping spaces (Some n) mapping frame within is same_index same_mapping = λ i at.
    let m = entry_at (mapping_values spaces) n within in
    let same : n ≡ i = some_same n i (sym same_index ∙ at) in
    (m.0, ap (slice_get (mapping_values spaces)) (sym same) ∙ m.1, same_mapping ∙ is ∙ m.1)

-- A location for what is found at the address of a frame is one of the frame.
locates : (meaning : Meaning) (detail : Detail) (before : List Applied) (spaces : AddressSpaces) (pid : ℤ) (time : Option ℕ) (frame : SampleFrame) (index : Option ℕ) (mapping : Option MappingValue) (location : LocationValue) → FindsIndex before spaces pid (lookup_address frame) frame.frame.context index → mapping ≡ mapping_at spaces index → IsLocationOf meaning detail (value_of pid time frame index mapping) location → Locates meaning detail before pid time frame location
locates meaning detail before spaces pid time frame index mapping location finds is located = record {
  found = indexed_at (mapping_values spaces) index;
  is_found = finds.found;
  is_location =
      let same_index = found_by_index (mapping_values spaces) index finds.within in
      let same_mapping = mapping_by_index spaces index ∙ sym is in
      subst (λ (i : Option ℕ). IsLocationOf meaning detail (value_of pid time frame i (option_map (λ (f : IndexedMapping). f.mapping) (indexed_at (mapping_values spaces) index))) location) (sym same_index) (subst (λ (m : Option MappingValue). IsLocationOf meaning detail (value_of pid time frame index m) location) (sym same_mapping) located);
}

-- A frame that was looked up with what was found at its address.
module _ (meaning : Meaning) (old new : Locator) (spaces : AddressSpaces) (pid : ℤ) (time : Option ℕ) (frame : SampleFrame) (index : Option ℕ) (mapping : Option MappingValue) (is : mapping ≡ mapping_at spaces index) (address : ℕ) (address_is : address ≡ lookup_address frame) (finds : (before : List Applied) → Follows before spaces → FindsIndex before spaces pid address frame.frame.context index) where
  abbrev looks_up : NewLocation → Type 0
  looks_up new_location = (mappings : List MappingValue) → HasMapping mappings (value_of pid time frame index mapping) → CacheHolds meaning old.detail mappings old → LooksUp meaning old.detail mappings (value_of pid time frame index mapping) new_location new

  finds_there : (before : List Applied) → Follows before spaces → FindsIndex before spaces pid (lookup_address frame) frame.frame.context index
  finds_there before follows = subst (λ (a : ℕ). FindsIndex before spaces pid a frame.frame.context index) address_is (finds before follows)

  looked_up : (before : List Applied) → Follows before spaces → CacheHolds meaning old.detail (mapping_values spaces) old → (location : NewLocation) → looks_up location → LooksUp meaning old.detail (mapping_values spaces) (value_of pid time frame index mapping) location new
  looked_up before follows holds location looks = looks (mapping_values spaces) (has_mapping spaces index mapping (value_of pid time frame index mapping) (finds_there before follows).within is refl refl) holds

  pub cache_looked_up : (result : Result NewLocation AllocError) → IfOk result looks_up → OnOk result ((before : List Applied) → Follows before spaces → CacheHolds meaning old.detail (mapping_values spaces) old → CacheHolds meaning old.detail (mapping_values spaces) new)
  cache_looked_up (Ok location) looks = λ before follows holds. (looked_up before follows holds location looks).cache
  cache_looked_up (Err error) looks = tt

  -- The location is one of the frame at the time of the sample or, if it is fixed, at each time.
  found_at : (location : NewLocation) → IsNewLocation meaning old.detail (located_lists new) (value_of pid time frame index mapping) location → (other : Option ℕ) → IsTime location.is_fixed time other → IsLocationOf meaning old.detail (value_of pid other frame index mapping) (location_at (located_lists new) location.id)
  found_at location found other at = elim at [
    | inl fixed ↦ (found.fixed fixed (value_of pid other frame index mapping) (record { index = refl; mapping = refl; address = refl })).is
    | inr same ↦ subst (λ (t : Option ℕ). IsLocationOf meaning old.detail (value_of pid t frame index mapping) (location_at (located_lists new) location.id)) (sym same) found.found.is
  ]

  pub location_looked_up : (result : Result NewLocation AllocError) → IfOk result looks_up → IfOk result (λ location. (before : List Applied) → Follows before spaces → CacheHolds meaning old.detail (mapping_values spaces) old → (other : Option ℕ) → IsTime location.is_fixed time other → Locates meaning old.detail before pid other frame (location_at (located_lists new) location.id))
  location_looked_up (Ok location) looks = λ before follows holds other at. locates meaning old.detail before spaces pid other frame index mapping (location_at (located_lists new) location.id) (finds_there before follows) is (found_at location (looked_up before follows holds location looks).found other at)
  location_looked_up (Err error) looks = tt
