-- Steps of private functions: the locations of frames as they are looked up.
use Rattle.std.specs.Prelude.{◌≡◌, ℕ, ◌<◌, ◌⊎◌, true, Bool, List, length, Option, Some, slice_get}
use Rattle.std.specs.Option.{option_map}
use Rattle.perfdata_profile.specs.Resolving.{AreAtOneAddress, FrameValue, Meaning}
use Rattle.perfdata_profile.specs.Samples.{IsPlace, IsRangeAt}
use Rattle.perfdata_profile.specs.Values.{IsLines, IsPlaced, Lists, lines_at, range_at}
use Rattle.perfdata_profile.specs.steps.Values.{ListsGrow}
use Rattle.perfdata_profile.specs.declared.locating.FrameLines.{FrameLines}
use Rattle.perfdata_profile.specs.declared.locating.Locator.{Locator}
use Rattle.perfdata_profile.specs.declared.locating.LocationKey.{LocationKey}
use Rattle.perfdata_profile.specs.declared.mappings.MappingId.{MappingId}
use Rattle.perfdata_profile.specs.declared.options.Detail.{Detail}
use Rattle.perfdata_spaces.specs.Mappings.{MappingValue}
use Rattle.perfdata_stacks.specs.Frames.{lookup_address}
use Rattle.perfdata_profile.specs.Locating.{located_lists}

-- Entries may be added to the tables.
pub record LocatorGrows (old new : Locator) : Type 0 where
  pub lists : ListsGrow (located_lists old) (located_lists new)
  pub detail : new.detail ≡ old.detail

-- The time of a sample or, of something that is fixed, any time.
abbrev pub IsTime : Bool → Option ℕ → Option ℕ → Type 0
IsTime is_fixed time other = (is_fixed ≡ true) ⊎ (other ≡ time)

-- A frame has the mapping with its index, if it has an index.
abbrev pub HasMapping : List MappingValue → FrameValue → Type 0
HasMapping mappings frame = (index : ℕ) → frame.index ≡ Some index
    → ((mapping : MappingValue) × (slice_get mappings index ≡ Some mapping) × (frame.mapping ≡ Some mapping))

module _ (meaning : Meaning) where
  -- A range that was looked up for an address of a mapping.
  pub record IsFoundRange (lists : Lists) (mapping : MappingValue) (address : ℕ) (id : Option MappingId) : Type 0 where
    pub placed : IsPlaced lists id address
    pub is : IsRangeAt meaning (Some mapping) address (option_map (range_at lists) id)

  -- The lines of a frame, and of all frames at the same address of the same mapping if they are fixed.
  pub record AreFoundLines (lists : Lists) (frame : FrameValue) (lines : FrameLines) : Type 0 where
    pub within : IsLines lists lines.id
    pub some : 0 < length (lines_at lists lines.id)
    pub are : meaning.has_lines frame (lines_at lists lines.id)
    pub fixed : lines.is_fixed ≡ true → (other : FrameValue) → AreAtOneAddress frame other → meaning.has_lines other (lines_at lists lines.id)

  module _ (detail : Detail) where
    pub record IsFoundKey (lists : Lists) (frame : FrameValue) (place : LocationKey) : Type 0 where
      pub placed : IsPlaced lists place.mapping place.address
      pub is : IsPlace meaning detail frame.mapping (lookup_address frame.frame) (option_map (range_at lists) place.mapping) place.address
