-- The records of a recording in the order in which they apply.
use Rattle.std.specs.Prelude.{◌≡◌, Bool, true, false, Option, Result}
use Rattle.perfdata_sections.specs.declared.error.Error.{Error}
use Rattle.linux_perf_data.specs.InMemoryReading.{ReturnsNextInMemory}
use Rattle.linux_perf_data.specs.declared.in_memory.InMemoryRecords.{InMemoryRecords}
use Rattle.linux_perf_data.specs.declared.perf_file.PerfFile.{PerfFile}
use Rattle.perfdata_order.specs.InMemoryOrder.{Entry, IsNewOrder, ReturnsInOrder}
use Rattle.perfdata_stack_arrays.specs.declared.records.Records.{Records}
use Rattle.perfdata_stack_arrays.specs.declared.records.Records.TheVariants.{ByTime, InInputOrder}

-- The records start: in order of time, or in the order of the input.
abbrev pub StartsRecords : Bool → InMemoryRecords → Records → Type 0
StartsRecords true records (ByTime ordered) = IsNewOrder records ordered
StartsRecords true records (InInputOrder other) = ⊥
StartsRecords false records (ByTime ordered) = ⊥
StartsRecords false records (InInputOrder other) = other ≡ records

-- The result of a call for the next record.
abbrev pub ReturnsNext : Records → PerfFile → Result (Option Entry) Error → Records → PerfFile → Type 0
ReturnsNext (ByTime old) file result (ByTime new) file' = ReturnsInOrder old file result new file'
ReturnsNext (ByTime old) file result (InInputOrder new) file' = ⊥
ReturnsNext (InInputOrder old) file result (ByTime new) file' = ⊥
ReturnsNext (InInputOrder old) file result (InInputOrder new) file' = ReturnsNextInMemory old file result new file'
