-- The samples that are counted, and their sums.
use Rattle.std.specs.Prelude.{◌≡◌, ℕ, ◌≤◌, ◌^◌, ◌⊎◌, List, [], ◌∷◌, ◌++◌, length, slice_get, Some}
use Rattle.std.specs.List.{sum_by}
use Rattle.perfdata_profile.specs.Sums.{sums_after}
use Rattle.perfdata_profile.specs.Tallies.{Counted, Tallies, weight_of}
use Rattle.perfdata_profile.specs.declared.error.ProfileError.{ProfileError}
use Rattle.perfdata_profile.specs.declared.error.ProfileError.TheVariants.{Overflow, Memory}
use Rattle.perfdata_profile.specs.declared.sums.SampleKey.{SampleKey}
use Rattle.perfdata_profile.specs.declared.sums.SampleSums.{SampleSums}
use Rattle.perfdata_profile.specs.declared.sums.Sums.{Sums}

-- The keys with their sums, in the order in which they were first counted.
abbrev pub entries_of : SampleSums → List (SampleKey × Sums)
entries_of sums = sums.entries.entries

-- The sums of all samples.
abbrev pub total_of : SampleSums → Sums
total_of sums = sums.total

-- The sums are those of the samples that were counted.
pub record TalliesSamples (counted : List (Counted SampleKey)) (sums : SampleSums) : Type 0 where
  pub entries : Tallies counted (entries_of sums)
  pub samples : (total_of sums).samples ≡ length counted
  pub weight : (total_of sums).weight ≡ sum_by weight_of counted

-- One more sample with a key.
abbrev pub then_counted : List (Counted SampleKey) → SampleKey → ℕ → List (Counted SampleKey)
then_counted counted key weight = counted ++ record { key = key; weight = weight } ∷ []

-- The sums after one more sample aren't both below 2^63.
abbrev pub Overflows : Sums → ℕ → Type 0
Overflows sums weight = (2 ^ 63 ≤ (sums_after sums weight).samples) ⊎ (2 ^ 63 ≤ (sums_after sums weight).weight)

-- Why a sample isn't counted.
abbrev pub IsCause : Sums → ℕ → ProfileError → Type 0
IsCause total weight Overflow = Overflows total weight
IsCause total weight Memory = Unit {0}

-- No sum changes.
pub record KeepsSums (old new : SampleSums) : Type 0 where
  pub entries : entries_of new ≡ entries_of old
  pub total : total_of new ≡ total_of old

-- Each entry keeps its key and its index.
abbrev pub KeepsKeys : List (SampleKey × Sums) → List (SampleKey × Sums) → Type 0
KeepsKeys old new = (index : ℕ) (key : SampleKey) (sums : Sums) → slice_get old index ≡ Some (key, sums)
    → ((now : Sums) × (slice_get new index ≡ Some (key, now)))

-- The index of the entry of a key, or the one after all entries if the key has none.
abbrev pub IsEntryIndex : List (SampleKey × Sums) → SampleKey → ℕ → Type 0
IsEntryIndex entries key index = ((sums : Sums) × (slice_get entries index ≡ Some (key, sums)))
    ⊎ (((other : ℕ) (sums : Sums) → slice_get entries other ≡ Some (key, sums) → ⊥) × (index ≡ length entries))
