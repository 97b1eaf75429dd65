use Rattle.std.proofs.Common.{◌≡◌, ◌+◌, ◌-◌, ◌*◌, ◌^◌, []}
use Rattle.perfdata_order.specs.Sorter.{available_of}
use Rattle.perfdata_order.specs.StreamingOrder.{Progress, unplaced_of}
use Rattle.perfdata_order.specs.steps.StreamingOrder.{pending_records}
use Rattle.perfdata_order.proofs.streaming.OrderedRecords.read_buffered.Given as goal

abbrev pub invariant-reads : goal.invariant-reads
invariant-reads g l = Progress g.R.Source.state l.fn.self l.fn.perf_file l.self l.perf_file × (available_of l.self.held.sorter ≡ [])

abbrev pub decreases-reads : goal.decreases-reads
decreases-reads g l = 2 * (2 ^ 64 - l.self.records.offset) + pending_records (unplaced_of l.self)
