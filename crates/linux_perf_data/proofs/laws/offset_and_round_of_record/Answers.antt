use Rattle.linux_perf_data.proofs.RecordOffsets.{record_offset}
use Rattle.linux_perf_data.proofs.laws.offset_and_round_of_record.Goals as goal

pub returns : goal.returns
returns c = λ order bound offset round attrs first_part back p other. record_offset order bound offset round attrs first_part back p other
