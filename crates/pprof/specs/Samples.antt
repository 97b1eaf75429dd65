-- The samples of a builder, and how more are added.
use Rattle.std.specs.Prelude.{◌≡◌, ◌≢◌, ℕ, zero, suc, ◌+◌, ◌-◌, ◌^◌, min, List, [], ◌∷◌, ◌++◌, ◌⊎◌, length, replicate, slice_get, take, Some}
use Rattle.pprof.specs.Messages.{SampleValue}
use Rattle.pprof.specs.declared.builder.WeightedSamples.{WeightedSamples}
use Rattle.pprof.specs.declared.profile.Label.{Label}

-- Samples with the same stack and labels.
pub record Row : Type 0 where
  pub location_ids : List ℕ
  pub labels : List Label
  pub values : List ℕ

-- A value for each of some sample types. Those that are missing are 0.
abbrev pub padded : ℕ → List ℕ → List ℕ
padded type_count values = take type_count values ++ replicate (type_count - length values) 0

-- A row as a sample of a profile.
abbrev pub sample_row : ℕ → Row → SampleValue
sample_row type_count row = record {
  location_ids = row.location_ids;
  values = padded type_count row.values;
  labels = row.labels;
}

-- A sample has as many values as there are types.
abbrev pub HaveValues : Type 0
HaveValues = (type_count : ℕ) (row : Row) → length (sample_row type_count row).values ≡ type_count

-- A number is added to the value with an index, if there is one. A sum of 2^64 or more is 2^64 - 1.
abbrev pub raised : ℕ → ℕ → List ℕ → List ℕ
raised index number [] = []
raised zero number (value ∷ values) = min (value + number) (2 ^ 64 - 1) ∷ values
raised (suc index) number (value ∷ values) = value ∷ raised index number values

-- The number of samples is added to the first value, and their weight to that of its column.
abbrev pub weighted : WeightedSamples → List ℕ → List ℕ
weighted weight values = raised weight.column weight.weight (raised 0 weight.samples values)

-- The row with an index has other values.
abbrev pub set_values : List Row → ℕ → List ℕ → List Row
set_values [] index values = []
set_values (row ∷ rows) zero values = record { location_ids = row.location_ids; labels = row.labels; values = values } ∷ rows
set_values (row ∷ rows) (suc index) values = row ∷ set_values rows index values

-- A row has these labels and locations.
pub record HasKey (labels : List Label) (location_ids : List ℕ) (row : Row) : Type 0 where
  pub labels_are : row.labels ≡ labels
  pub location_ids_are : row.location_ids ≡ location_ids

-- No row has these labels and locations.
abbrev pub NoneHasKey : List Row → List Label → List ℕ → Type 0
NoneHasKey rows labels location_ids = (index : ℕ) (row : Row) → slice_get rows index ≡ Some row → HasKey labels location_ids row → ⊥

-- The row that has these labels and locations lacks the value of a type.
pub record LacksValues (type_count : ℕ) (rows : List Row) (labels : List Label) (location_ids : List ℕ) : Type 0 where
  pub index : ℕ
  pub row : Row
  pub is_at : slice_get rows index ≡ Some row
  pub has_key : HasKey labels location_ids row
  pub lacks : length row.values ≢ type_count

-- Samples with these labels and locations need memory, for a row or for its values.
abbrev pub NeedMemory : ℕ → List Row → List Label → List ℕ → Type 0
NeedMemory type_count rows labels location_ids = NoneHasKey rows labels location_ids ⊎ LacksValues type_count rows labels location_ids

-- A weight is added to a row that has these labels and locations.
pub record AddsToRow (type_count : ℕ) (old : List Row) (labels : List Label) (location_ids : List ℕ) (weight : WeightedSamples) (new : List Row) : Type 0 where
  pub index : ℕ
  pub row : Row
  pub is_at : slice_get old index ≡ Some row
  pub has_key : HasKey labels location_ids row
  pub new_is : new ≡ set_values old index (weighted weight (padded type_count row.values))

-- No row has these labels and locations, so one that has is appended.
pub record AppendsRow (type_count : ℕ) (old : List Row) (labels : List Label) (location_ids : List ℕ) (weight : WeightedSamples) (new : List Row) : Type 0 where
  pub none_has_key : NoneHasKey old labels location_ids
  pub new_is : new ≡ old ++ record { location_ids = location_ids; labels = labels; values = weighted weight (replicate type_count 0) } ∷ []

-- Samples are added to the row with these labels and locations, and to no other.
abbrev pub AddsSamples : ℕ → List Row → List Label → List ℕ → WeightedSamples → List Row → Type 0
AddsSamples type_count old labels location_ids weight new =
    AddsToRow type_count old labels location_ids weight new ⊎ AppendsRow type_count old labels location_ids weight new
