use Rattle.std.proofs.Common.{arith}
use Rattle.perfdata_order.proofs.streaming.OrderedRecords.is_within_budget.Goals as goal

pub returns-in-None : goal.returns-in-None
returns-in-None g c = let none = c.in-None.ensures in grind (arith, none)
