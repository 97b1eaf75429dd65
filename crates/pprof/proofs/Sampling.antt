-- The samples of rows.
use Rattle.std.proofs.Common.{◌≡◌, ◌∙◌, ℕ, List, [], ◌∷◌, ◌++◌, append_assoc, arith, length, length-append, map, ap, replicate, sym, take, ◌-◌, Vec, Global}
use Rattle.std.proofs.lemmas.List.{length-replicate, length-take, map-append}
use Rattle.pprof.specs.Builders.{row_of, rows_of}
use Rattle.pprof.specs.Messages.{SampleValue, sample_value}
use Rattle.pprof.specs.Samples.{Row, padded, sample_row}
use Rattle.pprof.specs.declared.builder.RowKey.{RowKey}
use Rattle.pprof.specs.declared.profile.Sample.{Sample}

abbrev Entry : Type 0
Entry = RowKey × Vec ℕ Global

-- One more sample, of the next row.
pub samples_more : (type_count : ℕ) (old new : List Sample) (sample : Sample) (entry : Entry) (iterator rest all : List Entry) → iterator ≡ entry ∷ rest → new ≡ old ++ sample ∷ []
    → sample_value sample ≡ sample_row type_count (row_of entry)
    → map sample_value old ++ map (sample_row type_count) (rows_of iterator) ≡ map (sample_row type_count) (rows_of all)
    → map sample_value new ++ map (sample_row type_count) (rows_of rest) ≡ map (sample_row type_count) (rows_of all)
samples_more type_count old new sample entry iterator rest all first longer is so_far =
    let later : List SampleValue = map (sample_row type_count) (rows_of rest) in
    let one : map sample_value new ≡ map sample_value old ++ sample_value sample ∷ [] =
    ap (λ (samples : List Sample). map sample_value samples) longer ∙ map-append sample_value old (sample ∷ []) in
    ap (λ (values : List SampleValue). values ++ later) one ∙ append_assoc (map sample_value old) (sample_value sample ∷ []) later
    ∙ ap (λ (value : SampleValue). map sample_value old ++ value ∷ later) is
    ∙ ap (λ (entries : List Entry). map sample_value old ++ map (sample_row type_count) (rows_of entries)) (sym first) ∙ so_far

-- Samples for a count of types are those for the same number.
pub counted_samples : (samples : List SampleValue) (rows : List Row) (count types : ℕ) → count ≡ types → samples ≡ map (sample_row count) rows → samples ≡ map (sample_row types) rows
counted_samples samples rows count types counted are = are ∙ ap (λ (n : ℕ). map (sample_row n) rows) counted

pub padded_length : (type_count : ℕ) (values : List ℕ) → length (padded type_count values) ≡ type_count
padded_length type_count values =
    let taken = length-take type_count values in
    let more = length-replicate {A = ℕ} (type_count - length values) 0 in
    let all = length-append (take type_count values) (replicate {A = ℕ} (type_count - length values) 0) in
    omega (arith, taken, more, all)
