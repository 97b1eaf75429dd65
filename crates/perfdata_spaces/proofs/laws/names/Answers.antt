use Rattle.perfdata_spaces.proofs.OneName.{one_name}
use Rattle.perfdata_spaces.proofs.laws.names.Goals as goal

pub returns : goal.returns
returns c = one_name
