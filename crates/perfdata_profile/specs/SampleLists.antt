-- The selected samples of a profile in order, and that its sums are theirs.
use Rattle.std.specs.Prelude.{◌≡◌, ℕ, List, [], ◌∷◌, map, slice_get, Bool, true, false, Option, None, Some, IfSome}
use Rattle.std.specs.List.{flat_map}
use Rattle.perfdata_events.specs.declared.event.EventRecord.{EventRecord}
use Rattle.perfdata_events.specs.declared.event.EventRecord.TheVariants.{Sample}
use Rattle.perfdata_profile.specs.Profiles.{lists_of, valued_entry}
use Rattle.perfdata_profile.specs.Resolving.{Meaning}
use Rattle.perfdata_profile.specs.SampleSums.{entries_of}
use Rattle.perfdata_profile.specs.Samples.{AreCounted, AreRelated, Given, IsSample}
use Rattle.perfdata_profile.specs.Tallies.{Counted, Tallies}
use Rattle.perfdata_profile.specs.Values.{SampleValue, sample_value}
use Rattle.perfdata_profile.specs.declared.options.ProfileOptions.{ProfileOptions}
use Rattle.perfdata_profile.specs.declared.profile.Profile.{Profile}
use Rattle.perfdata_profile.specs.declared.sample_list.ListedSample.{ListedSample}
use Rattle.perfdata_profile.specs.declared.sample_list.SampleList.{SampleList}
use Rattle.perfdata_profile.specs.declared.sums.SampleKey.{SampleKey}
use Rattle.perfdata_profile.specs.declared.sums.SampleWeight.{SampleWeight}
use Rattle.perfdata_profile.specs.declared.sums.Sums.{Sums}
use Rattle.perfdata_profile.specs.declared.sample_list.StoredSample.{StoredSample}

-- A sample as it is stored.
abbrev pub stored_time : Bool → ℕ → Option ℕ
stored_time true time = Some time
stored_time false time = None

abbrev pub stored_value : StoredSample → ListedSample
stored_value stored = record { time = stored_time stored.has_time stored.time; entry = stored.entry; weight = stored.weight }

-- The samples of a list, in order.
abbrev pub listed_in : SampleList → List ListedSample
listed_in list = map stored_value list.samples.items

-- The time of a record that is a selected sample.
abbrev pub selected_times_as : EventRecord → Option SampleWeight → List (Option ℕ)
selected_times_as (Sample sample) (Some weight) = sample.timestamp ∷ []
selected_times_as (Sample sample) None = []
selected_times_as event weight = []

abbrev pub selected_times_of : Given → List (Option ℕ)
selected_times_of given = selected_times_as given.event given.weight

-- The times of the selected samples of records, each once, in order.
abbrev pub selected_times : List Given → List (Option ℕ)
selected_times given = flat_map selected_times_of given

-- The times of the samples of a list, in order.
abbrev pub listed_times : SampleList → List (Option ℕ)
listed_times list = map (λ (listed : ListedSample). listed.time) (listed_in list)

-- A listed sample is one that was counted: its entry has the key, and its weight is the same.
pub record IsEntryOf (entries : List (SampleKey × Sums)) (listed : ListedSample) (counted : Counted SampleKey) : Type 0 where
  pub sums : Sums
  pub entry : slice_get entries listed.entry ≡ Some (counted.key, sums)
  pub weight : listed.weight ≡ counted.weight

-- A list has what was counted, each once, in order, with its times.
pub record ListsCounted (at : List (Option ℕ)) (counted : List (Counted SampleKey)) (entries : List (SampleKey × Sums)) (list : SampleList) : Type 0 where
  pub times : listed_times list ≡ at
  pub listed : AreRelated (IsEntryOf entries) (listed_in list) counted

abbrev pub ListsIfSome : List (Option ℕ) → List (Counted SampleKey) → List (SampleKey × Sums) → Option SampleList → Type 0
ListsIfSome times counted entries samples = IfSome samples (ListsCounted times counted entries)

-- A listed sample is one with a value: its entry has a key with this value, and its weight is the same.
pub record IsListed (profile : Profile) (listed : ListedSample) (counted : Counted SampleValue) : Type 0 where
  pub key : SampleKey
  pub sums : Sums
  pub entry : slice_get (entries_of profile.sums) listed.entry ≡ Some (key, sums)
  pub value : counted.key ≡ sample_value (lists_of profile.tables) key
  pub weight : listed.weight ≡ counted.weight

-- The list of a profile has exactly the selected samples of records, each once, in order: with its own time and weight, and the thread, the stack
-- and the column that it has after the records before it. The sums of the profile are those of the list.
pub record ListsSamples (meaning : Meaning) (options : ProfileOptions) (given : List Given) (profile : Profile) (list : SampleList) : Type 0 where
  pub counted : List (Counted SampleValue)
  pub are : AreCounted (IsSample meaning options) given counted
  pub listed : AreRelated (IsListed profile) (listed_in list) counted
  pub times : listed_times list ≡ selected_times given
  pub sums : Tallies counted (map (valued_entry (lists_of profile.tables)) (entries_of profile.sums))
