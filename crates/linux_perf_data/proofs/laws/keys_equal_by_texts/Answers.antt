use Rattle.linux_perf_data.proofs.LastBuildIds.{eq_is}
use Rattle.linux_perf_data.proofs.laws.keys_equal_by_texts.Goals as goal

pub returns : goal.returns
returns c = eq_is
