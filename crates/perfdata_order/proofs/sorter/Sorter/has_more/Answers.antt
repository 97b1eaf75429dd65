use Rattle.std.proofs.Common.{refl}
use Rattle.perfdata_order.proofs.Entries.{tests_available}
use Rattle.perfdata_order.proofs.sorter.Sorter.has_more.Goals as goal

pub returns : goal.returns
returns g c = tests_available c.args.self.now _ refl
