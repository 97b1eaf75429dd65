-- Sums of samples as one more is counted.
use Rattle.std.proofs.Common.{◌≡◌, ◌∙◌, ◌+◌, ◌<◌, ◌≤◌, ◌^◌, inl, inr, ap, refl, sym, subst, arith, ℕ, List, [], ◌∷◌, ◌++◌, length, length-append, slice_get, position, None, Some}
use Rattle.std.specs.List.{sum_by}
use Rattle.std.specs.Bool.{Decides}
use Rattle.indexmap.specs.IndexMap.{set_value_at}
use Rattle.std.specs.Map.{keys_of, lookup}
use Rattle.std.proofs.Common.{true≢false}
use Rattle.std.proofs.lemmas.List.Sums.{sum_by-cons, sum_by_push}
use Rattle.std.specs.Prelude.{Bool}
use Rattle.perfdata_profile.specs.SampleSums.{IsEntryIndex, KeepsKeys, TalliesSamples, entries_of, then_counted, total_of}
use Rattle.perfdata_profile.specs.Sums.{entry_samples, entry_weight, sums_after}
use Rattle.perfdata_profile.specs.Tallies.{Counted, IsUnder, Tallies, one_sample, weight_of}
use Rattle.perfdata_profile.specs.declared.sums.SampleKey.{SampleKey}
use Rattle.perfdata_profile.specs.declared.sums.SampleSums.{SampleSums}
use Rattle.perfdata_profile.specs.declared.sums.Sums.{Sums}
use Rattle.perfdata_profile.proofs.Adding.{sum_at_most, tally_first, tally_raised}
use Rattle.perfdata_profile.proofs.Elements.{slice_get_last, slice_get_more, sum_set}
use Rattle.perfdata_profile.proofs.Searching.{found_at, map_at, none_found}

sum_of_ones : {K : Type 0} → (counted : List (Counted K)) → sum_by one_sample counted ≡ length counted
sum_of_ones [] = refl
sum_of_ones (c ∷ cs) =
    let rest = sum_of_ones cs in
    let more = sum_by-cons one_sample c cs in
    omega (arith, rest, more)

module _ (eq : SampleKey → SampleKey → Bool) (same : (key other : SampleKey) → Decides (eq key other) (key ≡ other)) (old new : SampleSums) (key : SampleKey) (weight : ℕ) (counted : List (Counted SampleKey)) (tallies : TalliesSamples counted old) (total : total_of new ≡ sums_after (total_of old) weight) where
  total_samples : (total_of new).samples ≡ length (then_counted counted key weight)
  total_samples =
      let more = length-append counted (record { key = key; weight = weight } ∷ []) in
      omega (arith, ap (λ (s : Sums). s.samples) total, tallies.samples, more)

  total_weight : (total_of new).weight ≡ sum_by weight_of (then_counted counted key weight)
  total_weight =
      let more = sum_by_push weight_of counted (record { key = key; weight = weight }) in
      omega (arith, ap (λ (s : Sums). s.weight) total, tallies.weight, more)

  pub raised_sample : (index : ℕ) → position (eq key) (keys_of old.entries.entries) ≡ Some index → (total_of new).samples < 2 ^ 63 → (total_of new).weight < 2 ^ 63 → ((k : SampleKey) (sums : Sums) → slice_get old.entries.entries index ≡ Some (k, sums) → (sums_after sums weight).samples < 2 ^ 63 → (sums_after sums weight).weight < 2 ^ 63 → new.entries.entries ≡ set_value_at old.entries.entries index (sums_after sums weight)) → TalliesSamples (then_counted counted key weight) new
  raised_sample index found samples_fit weight_fits raises =
      let k = found_at (eq key) (keys_of old.entries.entries) index found in
      let entry = map_at (λ (e : SampleKey × Sums). e.0) old.entries.entries index k.0 k.1 in
      let is : key ≡ entry.0.0 = (same key k.0).0 k.2 ∙ sym entry.2 in
      let at : slice_get (entries_of old) index ≡ Some (key, entry.0.1) = entry.1 ∙ ap (λ (o : SampleKey). Some (o, entry.0.1)) (sym is) in
      let samples = sum_at_most (IsUnder key) one_sample counted entry.0.1.samples (tallies.entries.samples index key entry.0.1 at) in
      let weights = sum_at_most (IsUnder key) weight_of counted entry.0.1.weight (tallies.entries.weights index key entry.0.1 at) in
      let fits : (sums_after entry.0.1 weight).samples < 2 ^ 63 = omega (arith, samples, sum_of_ones counted, tallies.samples, ap (λ (s : Sums). s.samples) total, samples_fit) in
      let weight_is : (sums_after entry.0.1 weight).weight < 2 ^ 63 = omega (arith, weights, tallies.weight, ap (λ (s : Sums). s.weight) total, weight_fits) in
      record {
        entries = subst (Tallies (then_counted counted key weight)) (sym (raises entry.0.0 entry.0.1 entry.1 fits weight_is)) (tally_raised counted (entries_of old) tallies.entries key weight index entry.0.1 at);
        samples = total_samples;
        weight = total_weight;
      }

  pub first_sample : lookup (eq key) old.entries.entries ≡ None → entries_of new ≡ entries_of old ++ (key, record { samples = 1; weight = weight }) ∷ [] → TalliesSamples (then_counted counted key weight) new
  first_sample absent entries =
      let none : (index : ℕ) (sums : Sums) → slice_get (entries_of old) index ≡ Some (key, sums) → ⊥ = λ index sums at.
      true≢false (sym ((same key key).1 refl) ∙ none_found (eq key) old.entries.entries index key sums absent at) in
      record {
        entries = subst (Tallies (then_counted counted key weight)) (sym entries) (tally_first counted (entries_of old) tallies.entries key weight none);
        samples = total_samples;
        weight = total_weight;
      }

-- The sums of all entries, as one more sample is counted under a key that has an entry.
module _ (es : List (SampleKey × Sums)) (index : ℕ) (key : SampleKey) (old : Sums) (at : slice_get es index ≡ Some (key, old)) where
  abbrev none : Sums
  none = record { samples = 0; weight = 0 }

  within_samples : old.samples ≤ sum_by entry_samples es
  within_samples =
      let without : sum_by entry_samples (set_value_at es index none) + old.samples ≡ sum_by entry_samples es + 0 = sum_set (λ (s : Sums). s.samples) es index key old none at in
      omega (arith, without)

  within_weight : old.weight ≤ sum_by entry_weight es
  within_weight =
      let without : sum_by entry_weight (set_value_at es index none) + old.weight ≡ sum_by entry_weight es + 0 = sum_set (λ (s : Sums). s.weight) es index key old none at in
      omega (arith, without)

  pub raised_is : (new : List (SampleKey × Sums)) (before total : Sums) (weight : ℕ) → before.samples ≡ sum_by entry_samples es → before.weight ≡ sum_by entry_weight es → total ≡ sums_after before weight → total.samples < 2 ^ 63 → total.weight < 2 ^ 63
      → ((sums_after old weight).samples < 2 ^ 63 → (sums_after old weight).weight < 2 ^ 63 → new ≡ set_value_at es index (sums_after old weight))
      → new ≡ set_value_at es index (sums_after old weight)
  raised_is new before total weight samples_are weight_is total_is samples_fit weight_fits raises =
      let samples_total : total.samples ≡ before.samples + 1 = ap (λ (s : Sums). s.samples) total_is in
      let weight_total : total.weight ≡ before.weight + weight = ap (λ (s : Sums). s.weight) total_is in
      raises (omega (arith, within_samples)) (omega (arith, within_weight))

  pub raised_totals : (new : List (SampleKey × Sums)) (before total : Sums) (weight : ℕ) → before.samples ≡ sum_by entry_samples es → before.weight ≡ sum_by entry_weight es → total ≡ sums_after before weight → total.samples < 2 ^ 63 → total.weight < 2 ^ 63
      → ((sums_after old weight).samples < 2 ^ 63 → (sums_after old weight).weight < 2 ^ 63 → new ≡ set_value_at es index (sums_after old weight))
      → (total.samples ≡ sum_by entry_samples new) × (total.weight ≡ sum_by entry_weight new)
  raised_totals new before total weight samples_are weight_is total_is samples_fit weight_fits raises =
      let samples_total : total.samples ≡ before.samples + 1 = ap (λ (s : Sums). s.samples) total_is in
      let weight_total : total.weight ≡ before.weight + weight = ap (λ (s : Sums). s.weight) total_is in
      let is = raised_is new before total weight samples_are weight_is total_is samples_fit weight_fits raises in
      let samples_after : sum_by entry_samples (set_value_at es index (sums_after old weight)) + old.samples ≡ sum_by entry_samples es + (old.samples + 1) = sum_set (λ (s : Sums). s.samples) es index key old (sums_after old weight) at in
      let weight_after : sum_by entry_weight (set_value_at es index (sums_after old weight)) + old.weight ≡ sum_by entry_weight es + (old.weight + weight) = sum_set (λ (s : Sums). s.weight) es index key old (sums_after old weight) at in (
        omega (arith, samples_after, ap (sum_by entry_samples) is),
        omega (arith, weight_after, ap (sum_by entry_weight) is),
      )

-- The same for a key that has no entry.
pub first_totals : (es new : List (SampleKey × Sums)) (key : SampleKey) (before total : Sums) (weight : ℕ) → before.samples ≡ sum_by entry_samples es → before.weight ≡ sum_by entry_weight es → total ≡ sums_after before weight
    → new ≡ es ++ (key, record { samples = 1; weight = weight }) ∷ []
    → (total.samples ≡ sum_by entry_samples new) × (total.weight ≡ sum_by entry_weight new)
first_totals es new key before total weight samples_are weight_is total_is is =
    let samples_total : total.samples ≡ before.samples + 1 = ap (λ (s : Sums). s.samples) total_is in
    let weight_total : total.weight ≡ before.weight + weight = ap (λ (s : Sums). s.weight) total_is in
    let one : SampleKey × Sums = (key, record { samples = 1; weight = weight }) in (
      omega (arith, sum_by_push entry_samples es one, ap (sum_by entry_samples) is),
      omega (arith, sum_by_push entry_weight es one, ap (sum_by entry_weight) is),
    )

-- The totals after an entry with a new key.
pub pushed_totals : (es new : List (SampleKey × Sums)) (key : SampleKey) (sums before total : Sums) → before.samples ≡ sum_by entry_samples es
    → before.weight ≡ sum_by entry_weight es → total.samples ≡ before.samples + sums.samples → total.weight ≡ before.weight + sums.weight
    → new ≡ es ++ (key, sums) ∷ [] → (total.samples ≡ sum_by entry_samples new) × (total.weight ≡ sum_by entry_weight new)
pushed_totals es new key sums before total samples_are weight_is samples_total weight_total is =
    let one : SampleKey × Sums = (key, sums) in (
      omega (arith, samples_are, samples_total, sum_by_push entry_samples es one, ap (sum_by entry_samples) is),
      omega (arith, weight_is, weight_total, sum_by_push entry_weight es one, ap (sum_by entry_weight) is),
    )

-- Entries after one more sample: those that were there keep their keys, and the key of the sample has the entry with its index.
module _ (es new : List (SampleKey × Sums)) (key : SampleKey) where
  pub raised_entry : KeepsKeys es new → (at : ℕ) (sums : Sums) → slice_get es at ≡ Some (key, sums) → (index : ℕ) → IsEntryIndex es key index → ((now : Sums) × (slice_get new index ≡ Some (key, now)))
  raised_entry keeps at sums found index is = elim is [
    | inl there ↦ keeps index key there.0 there.1
    | inr none ↦ absurd (none.0 at sums found)
  ]

  module _ (sums : Sums) (longer : new ≡ es ++ (key, sums) ∷ []) where
    pub first_keeps : KeepsKeys es new
    first_keeps = λ index other old at. (old, ap (λ l. slice_get l index) longer ∙ slice_get_more es ((key, sums) ∷ []) index (other, old) at)

    pub first_entry : (index : ℕ) → IsEntryIndex es key index → ((now : Sums) × (slice_get new index ≡ Some (key, now)))
    first_entry index is = elim is [
      | inl there ↦ first_keeps index key there.0 there.1
      | inr none ↦ (sums, ap (λ l. slice_get l index) longer ∙ ap (slice_get (es ++ (key, sums) ∷ [])) none.1 ∙ slice_get_last es (key, sums))
    ]
