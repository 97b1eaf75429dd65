use Rattle.linux_perf_data.proofs.UnfinishedLayouts as lemma
use Rattle.linux_perf_data.proofs.laws.whole_records_remain.Goals as goal

pub returns : goal.returns
returns c = λ order p h len size attrs raw_records rest records end unfinished split are part sized fits come. lemma.whole_records_remain order p h len size attrs raw_records rest records end unfinished split are part sized fits come
