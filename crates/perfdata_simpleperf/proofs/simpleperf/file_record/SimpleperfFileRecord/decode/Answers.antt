use Rattle.perfdata_simpleperf.proofs.Decoding.NotMemory.{decode_memory}
use Rattle.perfdata_simpleperf.proofs.Decoding.MessageSteps.{without_cause}
use Rattle.perfdata_simpleperf.proofs.Decoding.ValueUniqueness.{message_from, only_from, first_from}
use Rattle.perfdata_simpleperf.proofs.simpleperf.file_record.SimpleperfFileRecord.decode.Goals as goal

pub returns-clause-no_other : goal.returns-clause-no_other
returns-clause-no_other c = only_from _ _ c.decode_file_record.ensures.on_ok (without_cause c.decode_file_record.result _ _ c.decode_file_record.ensures.on_error)

pub returns-clause-first_error : goal.returns-clause-first_error
returns-clause-first_error c = first_from _ _ c.decode_file_record.ensures.on_ok (without_cause c.decode_file_record.result _ _ c.decode_file_record.ensures.on_error)

pub returns-clause-message : goal.returns-clause-message
returns-clause-message c = message_from _ _ c.decode_file_record.ensures.on_ok (without_cause c.decode_file_record.result _ _ c.decode_file_record.ensures.on_error)

pub returns-clause-on_error : goal.returns-clause-on_error
returns-clause-on_error c = without_cause c.decode_file_record.result _ _ c.decode_file_record.ensures.on_error

pub returns-clause-memory : goal.returns-clause-memory
returns-clause-memory c = decode_memory _ c.decode_file_record.result c.decode_file_record.ensures.on_error
