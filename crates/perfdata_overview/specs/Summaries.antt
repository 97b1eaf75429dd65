-- The number, the times and the weight of samples.
use Rattle.std.specs.Prelude.{ℕ, ◌-◌, Bool, true, false, Option, None, Some, min, max, not, nat_eq, ◌||◌}
use Rattle.std.specs.Option.{option_map}
use Rattle.perfdata_overview.specs.declared.sample_summary.SampleSummary.{SampleSummary}

-- The first and the last time.
abbrev pub times_of : SampleSummary → Option (ℕ × ℕ)
times_of summary = summary.times

-- The weight of the first sample, and whether another one differs from it.
abbrev pub first_weight_of : SampleSummary → Option ℕ
first_weight_of summary = summary.weight

abbrev pub has_other_weight : SampleSummary → Bool
has_other_weight summary = summary.differs

-- The first and the last of the times of two lists of samples.
abbrev pub joined_times : Option (ℕ × ℕ) → Option (ℕ × ℕ) → Option (ℕ × ℕ)
joined_times (Some one) (Some other) = Some (min one.0 other.0, max one.1 other.1)
joined_times one None = one
joined_times None other = other

-- The time from the first to the last sample.
abbrev pub time_between : SampleSummary → Option ℕ
time_between summary = option_map (λ times. times.1 - times.0) (times_of summary)

-- The weight that all samples have, or 0.
abbrev pub weight_or_zero : Bool → Option ℕ → ℕ
weight_or_zero true weight = 0
weight_or_zero false (Some weight) = weight
weight_or_zero false None = 0

-- Whether two weights are there and differ.
abbrev pub are_different : Option ℕ → Option ℕ → Bool
are_different (Some one) (Some other) = not (nat_eq one other)
are_different one other = false

-- Whether the weights of samples differ from the first one, after two lists of samples are joined.
abbrev pub weights_differ : SampleSummary → SampleSummary → Bool
weights_differ one other = has_other_weight one || has_other_weight other || are_different (first_weight_of one) (first_weight_of other)
