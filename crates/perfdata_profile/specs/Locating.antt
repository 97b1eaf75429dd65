-- The locations of frames as they are looked up.
use Rattle.std.specs.Prelude.{◌≡◌, true, List, Some, slice_get}
use Rattle.perfdata_profile.specs.Caching.{AllCached}
use Rattle.perfdata_profile.specs.Profiles.{lists_of}
use Rattle.perfdata_profile.specs.Resolving.{AreAtOneAddress, FrameValue, Meaning}
use Rattle.perfdata_profile.specs.Samples.{IsLocationOf}
use Rattle.perfdata_profile.specs.Values.{IsLocation, Lists, location_at}
use Rattle.perfdata_profile.specs.declared.cache.MappedAddress.{MappedAddress}
use Rattle.perfdata_profile.specs.declared.locating.Locator.{Locator}
use Rattle.perfdata_profile.specs.declared.locating.NewLocation.{NewLocation}
use Rattle.perfdata_profile.specs.declared.locations.LocationId.{LocationId}
use Rattle.perfdata_profile.specs.declared.options.Detail.{Detail}
use Rattle.perfdata_spaces.specs.Mappings.{MappingValue}
use Rattle.perfdata_stacks.specs.Frames.{lookup_address}

abbrev pub located_lists : Locator → Lists
located_lists locator = lists_of locator.tables

module _ (meaning : Meaning) where
  module _ (detail : Detail) where
    -- An id is that of a location of a frame.
    pub record IsFoundLocation (lists : Lists) (frame : FrameValue) (id : LocationId) : Type 0 where
      pub within : IsLocation lists id
      pub is : IsLocationOf meaning detail frame (location_at lists id)

    -- The location of a frame, and of all frames at the same address of the same mapping if it is fixed.
    pub record IsNewLocation (lists : Lists) (frame : FrameValue) (new : NewLocation) : Type 0 where
      pub found : IsFoundLocation lists frame new.id
      pub fixed : new.is_fixed ≡ true → (other : FrameValue) → AreAtOneAddress frame other → IsFoundLocation lists other new.id

    -- A cached id is that of a location of each frame at the address of the mapping.
    pub record IsCached (lists : Lists) (mappings : List MappingValue) (at : MappedAddress) (id : LocationId) : Type 0 where
      pub mapping : MappingValue
      pub is_at : slice_get mappings at.index ≡ Some mapping
      pub each : (frame : FrameValue) → frame.index ≡ Some at.index → frame.mapping ≡ Some mapping → lookup_address frame.frame ≡ at.address
          → IsFoundLocation lists frame id

    abbrev pub CacheHolds : List MappingValue → Locator → Type 0
    CacheHolds mappings locator = AllCached (IsCached (located_lists locator) mappings) locator.cache

    -- A frame was looked up: its location is found, and what is cached holds.
    pub record LooksUp (mappings : List MappingValue) (frame : FrameValue) (location : NewLocation) (new : Locator) : Type 0 where
      pub found : IsNewLocation (located_lists new) frame location
      pub cache : CacheHolds mappings new
