-- Values by process and address.
use Rattle.std.specs.Prelude.{ℕ, ℤ, Bool, Option, None, Some}
use Rattle.std.specs.Ordering.{int_cmp, is_eq}
use Rattle.std.specs.BTreeMap.{get}
use Rattle.perfdata_spaces.specs.Ranges.{value_of}
use Rattle.perfdata_spaces.specs.declared.ranges.RangeMap.{RangeMap}
use Rattle.perfdata_spaces.specs.declared.processes.Processes.{Processes}

-- Whether two ids are the same.
abbrev pub is_same : ℤ → ℤ → Bool
is_same pid other = is_eq (int_cmp pid other)

abbrev pub value_in_space : Option RangeMap → ℕ → Option ℕ
value_in_space None address = None
value_in_space (Some space) address = value_of space address

-- The value of an address of a process.
abbrev pub value_in : Processes → ℤ → ℕ → Option ℕ
value_in processes pid address = value_in_space (get int_cmp processes.spaces pid) address
