-- A profile by values: ids stand for what the tables have.
use Rattle.std.specs.Prelude.{◌≡◌, ℕ, List, map, slice_get, Some}
use Rattle.perfdata_profile.specs.Tallies.{Counted, Tallies}
use Rattle.perfdata_profile.specs.Values.{AreOnce, AreWithin, IsKey, Lists, SampleValue, lists_in, sample_value}
use Rattle.perfdata_profile.specs.declared.sums.SampleKey.{SampleKey}
use Rattle.perfdata_profile.specs.declared.sums.Sums.{Sums}
use Rattle.perfdata_profile.specs.declared.interned.Interned.{Interned}

abbrev pub lists_of : Interned → Lists
lists_of tables = lists_in tables.names tables.mappings tables.lines tables.locations tables.stacks

module _ (lists : Lists) where
  -- All keys have ids that refer to entries of the tables.
  abbrev pub AreKeys : List (Counted SampleKey) → Type 0
  AreKeys counted = (index : ℕ) (one : Counted SampleKey) → slice_get counted index ≡ Some one → IsKey lists one.key

  abbrev pub valued_sample : Counted SampleKey → Counted SampleValue
  valued_sample counted = record { key = sample_value lists counted.key; weight = counted.weight }

  abbrev pub valued_entry : SampleKey × Sums → SampleValue × Sums
  valued_entry entry = (sample_value lists entry.0, entry.1)

-- Sums by ids are sums by values: if each value has one id, the samples with the same values are those with the same ids.
abbrev pub TalliesValues : Type 0
TalliesValues = (lists : Lists) (counted : List (Counted SampleKey)) (entries : List (SampleKey × Sums))
    → AreOnce lists → AreWithin lists → AreKeys lists counted → Tallies counted entries
    → Tallies (map (valued_sample lists) counted) (map (valued_entry lists) entries)
