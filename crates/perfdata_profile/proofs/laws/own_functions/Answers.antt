use Rattle.perfdata_profile.proofs.Erasing.{sums_stay}
use Rattle.perfdata_profile.proofs.laws.own_functions.Goals as goal

pub returns : goal.returns
returns g c = λ options. sums_stay g.R.Resolver.meaning options
