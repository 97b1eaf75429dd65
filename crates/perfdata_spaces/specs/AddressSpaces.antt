-- Address spaces and names of threads after records.
use Rattle.std.specs.Prelude.{◌≡◌, ℕ, ℤ, ◌<◌, ◌⊎◌, List, [], ◌∷◌, ◌++◌, length, map, slice_get, Option, None, Some, IfSome}
use Rattle.perfdata_events.specs.declared.event.EventRecord.{EventRecord}
use Rattle.perfdata_events.specs.declared.fields.call_chain.CallContext.{CallContext}
use Rattle.perfdata_spaces.specs.Effects.{Applied, SpaceEffect, NameEffect, space_effect, name_effect, naming_of, numbered}
use Rattle.perfdata_spaces.specs.Histories.{IsFound, IsFoundMapping}
use Rattle.perfdata_spaces.specs.Mappings.{MappingValue}
use Rattle.perfdata_spaces.specs.Spaces.{FollowsSpaces, index_of_added, indexed_at, values_of}
use Rattle.perfdata_spaces.specs.ThreadNames.{AppliesName, FollowsNames, KeepsNames}
use Rattle.perfdata_spaces.specs.declared.address_spaces.AddressSpaces.{AddressSpaces}
use Rattle.perfdata_spaces.specs.declared.thread_names.ThreadNames.{ThreadNames}

abbrev pub space_effects : List Applied → List SpaceEffect
space_effects records = map space_effect records

abbrev pub name_effects : List Applied → List NameEffect
name_effects records = map name_effect records

-- The records after one more was applied.
abbrev pub then_applied : List Applied → ℕ → EventRecord → List Applied
then_applied records misc event = records ++ record { misc = misc; event = event } ∷ []

-- The address spaces are those after records.
pub record Follows (records : List Applied) (spaces : AddressSpaces) : Type 0 where
  pub spaces_follow : FollowsSpaces (numbered (space_effects records)) spaces.spaces
  pub names_follow : FollowsNames (name_effects records) spaces.names

-- The address spaces are those after records, but the names may be those after one record more.
pub record FollowsBut (records : List Applied) (next : EventRecord) (spaces : AddressSpaces) : Type 0 where
  pub spaces_follow : FollowsSpaces (numbered (space_effects records)) spaces.spaces
  pub names : ThreadNames
  pub names_follow : FollowsNames (name_effects records) names
  pub named : KeepsNames names spaces.names ⊎ AppliesName (naming_of next) names spaces.names

-- All mappings, by index.
abbrev pub mapping_values : AddressSpaces → List MappingValue
mapping_values spaces = values_of spaces.spaces

-- Mappings keep their indices.
abbrev pub KeepsIndices : AddressSpaces → AddressSpaces → Type 0
KeepsIndices old new = ((more : List MappingValue) × (mapping_values new ≡ mapping_values old ++ more))

-- Mappings are added after those that were there. The index is that of the first one of them, or none if there are none.
pub record AddsMappings (mappings : List MappingValue) (old : AddressSpaces) (index : Option ℕ) (new : AddressSpaces) : Type 0 where
  pub after : mapping_values new ≡ mapping_values old ++ mappings
  pub index_is : index ≡ index_of_added mappings (length (mapping_values old))

-- The mapping with an index.
abbrev pub mapping_at : AddressSpaces → Option ℕ → Option MappingValue
mapping_at spaces None = None
mapping_at spaces (Some index) = slice_get (mapping_values spaces) index

-- An index is that of the mapping at an address: of the last one, if several are equal.
pub record FindsIndex (records : List Applied) (spaces : AddressSpaces) (pid : ℤ) (address : ℕ) (context : CallContext) (index : Option ℕ) : Type 0 where
  pub found : IsFound (space_effects records) pid address context (indexed_at (mapping_values spaces) index)
  pub mapping : IsFoundMapping (space_effects records) pid address context (mapping_at spaces index)
  pub within : IfSome index (λ i. i < length (mapping_values spaces))
