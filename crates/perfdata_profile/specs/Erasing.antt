-- A profile as it is without inlined functions.
use Rattle.std.specs.Prelude.{◌≡◌, ℕ, List, [], ◌∷◌, filter, length, map, slice_get, Some}
use Rattle.perfdata_profile.specs.Building.{IsProfileOf}
use Rattle.perfdata_profile.specs.Profiles.{lists_of, valued_entry}
use Rattle.perfdata_profile.specs.Resolving.{Meaning}
use Rattle.perfdata_profile.specs.SampleSums.{entries_of}
use Rattle.perfdata_profile.specs.Samples.{AreCounted, Given, IsSample, is_selected}
use Rattle.perfdata_profile.specs.Sums.{entry_samples, entry_weight}
use Rattle.perfdata_profile.specs.Tallies.{Counted, IsSumOf, IsUnder, one_sample, weight_of}
use Rattle.perfdata_profile.specs.Values.{LineValue, LocationValue, SampleValue}
use Rattle.perfdata_profile.specs.declared.options.ProfileOptions.{ProfileOptions}
use Rattle.perfdata_profile.specs.declared.profile.Profile.{Profile}
use Rattle.perfdata_profile.specs.declared.sums.Sums.{Sums}

-- The last one of some lines: that of the own function of a frame. The others are those of inlined functions.
abbrev pub own_lines : List LineValue → List LineValue
own_lines [] = []
own_lines (line ∷ []) = line ∷ []
own_lines (line ∷ (next ∷ lines)) = own_lines (next ∷ lines)

abbrev pub own_location : LocationValue → LocationValue
own_location location = record { mapping = location.mapping; address = location.address; lines = own_lines location.lines }

-- A sample with the own function of each of its frames alone.
abbrev pub own_sample : SampleValue → SampleValue
own_sample value = record { thread = value.thread; stack = map own_location value.stack; column = value.column }

-- What a resolver may answer that leaves inlined functions out.
abbrev pub own_meaning : Meaning → Meaning
own_meaning meaning = record {
  names_thread = meaning.names_thread;
  has_lines = λ frame lines. ((all : List LineValue) × meaning.has_lines frame all × (lines ≡ own_lines all));
  names_file = meaning.names_file;
  has_frames = meaning.has_frames;
}

-- Whether an entry is that of a sample, without inlined functions.
abbrev pub IsErasedTo : SampleValue → SampleValue × Sums → Type 0
IsErasedTo value entry = own_sample entry.0 ≡ value

module _ (meaning : Meaning) (options : ProfileOptions) where
  -- Without its inlined functions a profile is that of the same records by a resolver that leaves them out.
  pub record ErasesInlined (given : List Given) (profile : Profile) : Type 0 where
    -- What the selected samples are counted as by such a resolver. Each counts once.
    pub counted : List (Counted SampleValue)
    pub are : AreCounted (IsSample (own_meaning meaning) options) given counted
    pub number : length counted ≡ length (filter is_selected given)
    -- The entries that are one without inlined functions add up to the samples under it, and to their weight.
    pub samples : (value : SampleValue) (sum : ℕ)
        → IsSumOf (IsErasedTo value) entry_samples (map (valued_entry (lists_of profile.tables)) (entries_of profile.sums)) sum
        → IsSumOf (IsUnder value) one_sample counted sum
    pub weights : (value : SampleValue) (sum : ℕ)
        → IsSumOf (IsErasedTo value) entry_weight (map (valued_entry (lists_of profile.tables)) (entries_of profile.sums)) sum
        → IsSumOf (IsUnder value) weight_of counted sum
    -- What is counted has an entry that is it without inlined functions.
    pub all : (index : ℕ) (one : Counted SampleValue) → slice_get counted index ≡ Some one
        → ((at : ℕ) × (entry : SampleValue × Sums)
        × (slice_get (map (valued_entry (lists_of profile.tables)) (entries_of profile.sums)) at ≡ Some entry) × IsErasedTo one.key entry)

  -- The sums of a profile are the same without inlined functions.
  abbrev pub SumsStay : Type 0
  SumsStay = (given : List Given) (profile : Profile) → IsProfileOf meaning options given profile → ErasesInlined given profile
