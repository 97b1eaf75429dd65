use Rattle.linux_perf_data.proofs.LayoutUniqueness.{layout_exists}
use Rattle.linux_perf_data.proofs.laws.layout_exists.Goals as goal

pub returns : goal.returns
returns c = λ order bytes bound offset attrs fits rule. layout_exists order bytes bound offset attrs fits rule
