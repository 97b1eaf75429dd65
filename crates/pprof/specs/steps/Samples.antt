-- Steps of private functions: the samples of a builder, and how more are added.
use Rattle.std.specs.Prelude.{◌≡◌, ℕ, List, slice_get, Some}
use Rattle.pprof.specs.declared.builder.WeightedSamples.{WeightedSamples}
use Rattle.pprof.specs.Samples.{Row, padded, weighted, set_values}

-- A weight is added to the values of the row with an index.
abbrev pub RaisesRow : List Row → ℕ → ℕ → WeightedSamples → List Row → Type 0
RaisesRow old index type_count weight new = (row : Row) → slice_get old index ≡ Some row
    → new ≡ set_values old index (weighted weight (padded type_count row.values))
