-- A profile as it is built.
use Rattle.std.specs.Prelude.{◌≡◌, ℕ, Bool, true, false, List, filter, length, map, slice_get, Option, None, Some}
use Rattle.perfdata_events.specs.declared.sample.SampleRecord.{SampleRecord}
use Rattle.perfdata_profile.specs.Chains.{ChainsHold}
use Rattle.perfdata_profile.specs.Locating.{CacheHolds, located_lists}
use Rattle.perfdata_profile.specs.Profiles.{lists_of, valued_entry}
use Rattle.perfdata_profile.specs.Resolving.{Meaning}
use Rattle.perfdata_profile.specs.SampleLists.{ListsIfSome, selected_times}
use Rattle.perfdata_profile.specs.SampleSums.{TalliesSamples, entries_of}
use Rattle.perfdata_profile.specs.Samples.{AreCounted, Given, IsSample, applied_in, is_selected}
use Rattle.perfdata_profile.specs.Tallies.{Counted, Tallies}
use Rattle.perfdata_profile.specs.Values.{IsKey, Lists, SampleValue, sample_value}
use Rattle.perfdata_profile.specs.declared.builder.ProfileBuilder.{ProfileBuilder}
use Rattle.perfdata_profile.specs.declared.options.ProfileOptions.{ProfileOptions}
use Rattle.perfdata_profile.specs.declared.profile.Profile.{Profile}
use Rattle.perfdata_profile.specs.declared.sample_list.SampleList.{SampleList}
use Rattle.perfdata_profile.specs.declared.sums.SampleKey.{SampleKey}
use Rattle.perfdata_profile.specs.declared.sums.Sums.{Sums}
use Rattle.perfdata_spaces.specs.AddressSpaces.{Follows, mapping_values}
use Rattle.perfdata_spaces.specs.Effects.{Applied}

-- Whether samples are listed.
abbrev pub has_list : Option SampleList → Bool
has_list (Some list) = true
has_list None = false

abbrev pub options_of : {R : Type 0} → ProfileBuilder R → ProfileOptions
options_of builder = record { detail = builder.locator.detail; thread_ids = builder.thread_ids; times = has_list builder.samples }

module _ (meaning : Meaning) where
  -- A key has the ids of the thread and the stack of a sample.
  pub record HasKey (lists : Lists) (options : ProfileOptions) (before : List Applied) (misc : ℕ) (sample : SampleRecord) (column : ℕ)
      (key : SampleKey) : Type 0 where
    pub within : IsKey lists key
    pub is : IsSample meaning options before misc sample column (sample_value lists key)

  module _ {R : Type 0} (options : ProfileOptions) where
    -- A builder was given records, and counted their selected samples.
    pub record Builds (given : List Given) (builder : ProfileBuilder R) : Type 0 where
      pub has_options : options_of builder ≡ options
      pub follows : Follows (applied_in given) builder.spaces
      pub cache : CacheHolds meaning options.detail (mapping_values builder.spaces) builder.locator
      pub chains : ChainsHold meaning options.detail (located_lists builder.locator) (applied_in given) builder.chains
      pub counted : List (Counted SampleKey)
      pub are : AreCounted (HasKey (located_lists builder.locator) options) given counted
      pub sums : TalliesSamples counted builder.sums
      pub listed : ListsIfSome (selected_times given) counted (entries_of builder.sums) builder.samples

  -- The sums of a profile are those of the selected samples of records: each sample counts once, under its own thread, stack and column.
  pub record IsProfileOf (options : ProfileOptions) (given : List Given) (profile : Profile) : Type 0 where
    pub counted : List (Counted SampleValue)
    pub are : AreCounted (IsSample meaning options) given counted
    pub sums : Tallies counted (map (valued_entry (lists_of profile.tables)) (entries_of profile.sums))
    pub number : length counted ≡ length (filter is_selected given)
    -- The ids of the keys refer to entries of the tables.
    pub within : (index : ℕ) (key : SampleKey) (sums : Sums) → slice_get (entries_of profile.sums) index ≡ Some (key, sums)
        → IsKey (lists_of profile.tables) key
