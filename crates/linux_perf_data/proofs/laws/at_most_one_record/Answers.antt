use Rattle.linux_perf_data.proofs.RecordHeaders.{same_prefix}
use Rattle.linux_perf_data.proofs.laws.at_most_one_record.Goals as goal

pub returns : goal.returns
returns c = λ order p q after later is is_too e. same_prefix order p q after later is is_too e
