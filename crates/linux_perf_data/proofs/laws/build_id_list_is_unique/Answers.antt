use Rattle.linux_perf_data.proofs.BuildIdUniqueness.{entries_once}
use Rattle.linux_perf_data.proofs.laws.build_id_list_is_unique.Goals as goal

pub returns : goal.returns
returns c = entries_once
