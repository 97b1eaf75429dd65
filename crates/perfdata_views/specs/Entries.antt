-- The entries of a profile: what samples are kept apart by, with the sums of their numbers and weights.
use Rattle.std.specs.Prelude.{ℕ, Bool, if◌then◌else◌, List, map, reverse}
use Rattle.std.specs.List.{flat_map, sum_by}
use Rattle.perfdata_profile.specs.Profiles.{lists_of, valued_entry}
use Rattle.perfdata_profile.specs.SampleSums.{entries_of, total_of}
use Rattle.perfdata_profile.specs.Values.{LineValue, LocationValue, SampleValue}
use Rattle.perfdata_profile.specs.declared.profile.Profile.{Profile}
use Rattle.perfdata_profile.specs.declared.sums.Sums.{Sums}

abbrev pub Entry : Type 0
Entry = SampleValue × Sums

-- The entries by values, in the order in which they were first counted.
abbrev pub entries_in : Profile → List Entry
entries_in profile = map (valued_entry (lists_of profile.tables)) (entries_of profile.sums)

abbrev pub entry_key : Entry → SampleValue
entry_key entry = entry.0

abbrev pub weight_of : Entry → ℕ
weight_of entry = entry.1.weight

-- The sum of the weights of all samples.
abbrev pub total_weight : Profile → ℕ
total_weight profile = (total_of profile.sums).weight

-- The sum of the weights of those entries of which a test is true.
abbrev pub weight_where : (Entry → Bool) → List Entry → ℕ
weight_where test entries = sum_by (λ (entry : Entry). if test entry then weight_of entry else 0) entries

-- The lines of a stack, the leaf's first. Inlined functions have lines of their own.
abbrev pub stack_lines : List LocationValue → List LineValue
stack_lines stack = flat_map (λ (location : LocationValue). location.lines) stack

-- The names of the functions of a stack, the leaf's first.
abbrev pub stack_names : List LocationValue → List (List ℕ)
stack_names stack = map (λ (line : LineValue). line.function) (stack_lines stack)

-- The names of the functions of a stack, the root's first.
abbrev pub functions_of : List LocationValue → List (List ℕ)
functions_of stack = reverse (stack_names stack)
