use Rattle.perfdata_jit.proofs.Traces.{in_order}
use Rattle.perfdata_jit.proofs.laws.nothing_is_lost.Goals as goal

pub returns : goal.returns
returns g c = λ old steps new run found. (in_order g.R.Source.state old steps new run found).0
