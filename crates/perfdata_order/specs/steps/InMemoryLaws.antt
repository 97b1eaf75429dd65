-- Steps of private functions: laws of the records of an input in memory in order of time.
use Rattle.std.specs.Prelude.{List}
use Rattle.std.specs.Ordering.{nat_cmp}
use Rattle.linux_perf_data.specs.declared.perf_file.PerfFile.{PerfFile}
use Rattle.linux_perf_data.specs.declared.in_memory.InMemoryRecords.{InMemoryRecords}
use Rattle.perfdata_order.specs.declared.in_memory.InMemoryOrderedRecords.{InMemoryOrderedRecords}
use Rattle.perfdata_order.specs.Order.{Ascends}
use Rattle.perfdata_order.specs.SorterLaws.{inserted_in_rounds, returned_by, KeepsRoundRule}
use Rattle.perfdata_order.specs.InMemoryOrder.{Step, TakesSteps, IsNewOrder}
use Rattle.perfdata_order.specs.InMemoryLaws.{calls_in}

-- The timed records that were returned ascend if those that were inserted keep the rule of rounds.
abbrev pub TimesAscendUnderRule : Type 0
TimesAscendUnderRule = (records : InMemoryRecords) (first last : InMemoryOrderedRecords) (file file' : PerfFile) (steps : List Step) →
    IsNewOrder records first → TakesSteps steps first file last file' → KeepsRoundRule nat_cmp (inserted_in_rounds 0 (calls_in steps)) →
    Ascends nat_cmp (returned_by (calls_in steps))
