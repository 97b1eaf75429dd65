use Rattle.perfdata_spaces.proofs.Beyond.{finds_none_beyond}
use Rattle.perfdata_spaces.proofs.OneHistory.{finds_one, one_history}
use Rattle.perfdata_spaces.proofs.laws.mappings.Goals as goal

pub returns : goal.returns
returns c = record { history = one_history; found = finds_one; beyond = finds_none_beyond }
