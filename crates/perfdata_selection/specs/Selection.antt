-- Which samples are selected.
use Rattle.std.specs.Prelude.{◌≡◌, ℕ, zero, ℤ, pos, ◌≤◌, ◌⊎◌, List, [], Option, None, Some, codes}
use Rattle.std.specs.List.{Any}
use Rattle.std.specs.Option.{option_map}
use Rattle.perfdata_selection.specs.declared.filter.NumberRange.{NumberRange}
use Rattle.perfdata_selection.specs.declared.filter.SampleFilter.{SampleFilter}
use Rattle.perfdata_selection.specs.declared.filter.SampleOrigin.{SampleOrigin}

-- One of the alternatives of a list holds, or the list is empty.
abbrev pub IsAmong : {A : Type 0} → (A → Type 0) → List A → Type 0
IsAmong holds alternatives = (alternatives ≡ []) ⊎ Any holds alternatives

-- The name of the thread of a sample. The idle task of each processor, whose id is 0, is called swapper.
abbrev pub named_as : Option (List ℕ) → ℤ → Option (List ℕ)
named_as (Some comm) tid = Some comm
named_as None (pos zero) = Some (codes "swapper")
named_as None tid = None

abbrev pub thread_name_of : SampleOrigin → Option (List ℕ)
thread_name_of sample = named_as (option_map (λ comm. comm.now) sample.comm) sample.tid

-- A number is in a range, the ends included. A sample without the number is in none.
abbrev pub HasNumber : Option ℕ → NumberRange → Type 0
HasNumber None range = ⊥
HasNumber (Some number) range = (range.first ≤ number) × (number ≤ range.last)

-- A sample has one of the alternatives of each list of a filter that isn't empty.
pub record IsSelected (filter : SampleFilter) (sample : SampleOrigin) : Type 0 where
  pub thread_name : IsAmong (λ name. thread_name_of sample ≡ Some name.now) filter.thread_names.items
  pub pid : IsAmong (λ pid. pid ≡ sample.pid) filter.pids.items
  pub tid : IsAmong (λ tid. tid ≡ sample.tid) filter.tids.items
  pub cpu : IsAmong (HasNumber sample.cpu) filter.cpus.items
  pub time : IsAmong (HasNumber sample.time) filter.times.items
