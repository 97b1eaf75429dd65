use Rattle.std.proofs.Common.{◌+◌, ◌-◌, ◌*◌, ◌^◌}
use Rattle.perfdata_order.specs.InMemoryOrder.{Progress}
use Rattle.perfdata_order.specs.steps.InMemoryOrder.{pending_records}
use Rattle.perfdata_order.proofs.in_memory.InMemoryOrderedRecords.next_record.Given as goal

abbrev pub invariant-reads : goal.invariant-reads
invariant-reads l = Progress l.fn.self l.fn.perf_file l.self l.perf_file

abbrev pub decreases-reads : goal.decreases-reads
decreases-reads l = 2 * (2 ^ 64 - l.self.records.records.offset) + pending_records l.self.pending
