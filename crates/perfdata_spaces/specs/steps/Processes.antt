-- Steps of private functions: values by process and address.
use Rattle.std.specs.Prelude.{◌≡◌, ℕ, ℤ}
use Rattle.perfdata_spaces.specs.declared.processes.Processes.{Processes}
use Rattle.perfdata_spaces.specs.Processes.{value_in}

-- All processes have the same values.
abbrev pub KeepsValues : Processes → Processes → Type 0
KeepsValues old new = (pid : ℤ) (address : ℕ) → value_in new pid address ≡ value_in old pid address
