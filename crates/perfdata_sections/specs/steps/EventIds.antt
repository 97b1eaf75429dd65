-- Steps of private functions: the ids of an event: consecutive numbers of eight bytes each.
use Rattle.std.specs.Prelude.{◌≡◌, ℕ, ◌/◌, ◌≤◌, List, ◌++◌, length, Result, Ok, Err}
use Rattle.perfdata_sources.specs.Source.{State, ReadExactError}
use Rattle.perfdata_sources.specs.declared.source.append.AppendError.{AppendError}
use Rattle.perfdata_sources.specs.declared.source.append.AppendError.TheVariants.{Memory, Source}
use Rattle.perfdata_sections.specs.ParsedPart.{PartRead, PartPartlyRead}
use Rattle.perfdata_sections.specs.EventIds.{u64s_of}

-- What reading `size` bytes of ids does to a list: it appends the ids. Memory runs out only after the bytes of an id.
abbrev pub AppendsIds : (ℕ → List ℕ → ℕ) → ℕ → State → List ℕ → Result (Unit {0}) AppendError → List ℕ → State → Type 0
AppendsIds number size old before (Ok _) now new = PartRead (λ xs ids. (length xs ≡ size) × (ids ≡ before ++ u64s_of number (size / 8) xs)) old now new
AppendsIds number size old before (Err Memory) now new = PartPartlyRead (λ xs. (8 ≤ length xs) × (length xs ≡ size)) old new
AppendsIds number size old before (Err (Source e)) now new = ReadExactError old size e new
