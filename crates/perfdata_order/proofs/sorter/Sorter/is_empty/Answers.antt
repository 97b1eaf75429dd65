use Rattle.std.proofs.Common.{ap, sym}
use Rattle.std.specs.Prelude.{◌==◌}
use Rattle.perfdata_order.proofs.Entries.{tests_empty}
use Rattle.perfdata_order.proofs.sorter.Sorter.is_empty.Goals as goal

pub returns : goal.returns
returns g c = tests_empty c.args.self.now _ (ap (λ n. n == 0) (sym c.len.ensures))
