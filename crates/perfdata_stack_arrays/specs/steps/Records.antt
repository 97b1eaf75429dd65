-- Steps of private functions: the records of a recording in the order in which they apply.
use Rattle.std.specs.Prelude.{Bool}
use Rattle.linux_perf_data.specs.declared.in_memory.InMemoryRecords.{InMemoryRecords}
use Rattle.perfdata_stack_arrays.specs.declared.records.Records.{Records}
use Rattle.perfdata_stack_arrays.specs.Records.{StartsRecords}

-- The records start in one of the orders.
abbrev pub IsStart : Records → Type 0
IsStart start = (by_time : Bool) × ((records : InMemoryRecords) × StartsRecords by_time records start)
