-- Sums of samples.
use Rattle.std.specs.Prelude.{ℕ, ◌+◌}
use Rattle.perfdata_profile.specs.declared.sums.Sums.{Sums}

-- The sums after one more sample with a weight.
abbrev pub sums_after : Sums → ℕ → Sums
sums_after sums weight = record { samples = sums.samples + 1; weight = sums.weight + weight }

-- The sums of an entry.
abbrev pub entry_samples : {K : Type 0} → K × Sums → ℕ
entry_samples entry = entry.1.samples

abbrev pub entry_weight : {K : Type 0} → K × Sums → ℕ
entry_weight entry = entry.1.weight
