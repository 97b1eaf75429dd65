use Rattle.std.proofs.Common.{refl}
use Rattle.linux_perf_data.proofs.FileReadings.{returns_records_more}
use Rattle.linux_perf_data.proofs.laws.consecutive_calls.Goals as goal

pub returns : goal.returns
returns g c = record { none = λ it file. (refl, refl); more = returns_records_more g.R.Source.state }
