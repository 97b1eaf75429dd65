use Rattle.perfdata_simpleperf.proofs.V1Uniqueness.{only_v1, first_v1}
use Rattle.perfdata_simpleperf.proofs.simpleperf.file_record.SimpleperfFileRecord.decode_v1.Goals as goal

pub returns-clause-no_other : goal.returns-clause-no_other
returns-clause-no_other g c = only_v1 g.T.ByteOrder.number_of _ _ c.decode_v1_record.ensures.on_ok c.decode_v1_record.ensures.on_error

pub returns-clause-first_error : goal.returns-clause-first_error
returns-clause-first_error g c = first_v1 g.T.ByteOrder.number_of _ _ c.decode_v1_record.ensures.on_ok c.decode_v1_record.ensures.on_error
