use Rattle.linux_perf_data.proofs.RecordOffsets.{views_rise}
use Rattle.linux_perf_data.proofs.laws.offsets_increase.Goals as goal

pub returns : goal.returns
returns c = λ order bound offset round attrs pieces are. let rise = views_rise order bound offset round attrs pieces are in (rise.1, rise.0)
