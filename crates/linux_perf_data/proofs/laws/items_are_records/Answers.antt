use Rattle.linux_perf_data.proofs.MarkerCalls.{items_are_records}
use Rattle.linux_perf_data.proofs.laws.items_are_records.Goals as goal

pub returns : goal.returns
returns g c = items_are_records g.R.Source.state
