use Rattle.perfdata_views.proofs.CountingSamples.{views_count_once}
use Rattle.perfdata_views.proofs.laws.samples.Goals as goal

pub returns : goal.returns
returns g c = λ options. views_count_once g.R.Resolver.meaning options
