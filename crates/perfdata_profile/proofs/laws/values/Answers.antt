use Rattle.perfdata_profile.proofs.Valuing.{tallies_values}
use Rattle.perfdata_profile.proofs.laws.values.Goals as goal

pub returns : goal.returns
returns c = tallies_values
