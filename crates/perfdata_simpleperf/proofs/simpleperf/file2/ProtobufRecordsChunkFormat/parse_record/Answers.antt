use Rattle.std.proofs.Common.{rules, refl, inl}
use Rattle.perfdata_simpleperf.proofs.simpleperf.file2.ProtobufRecordsChunkFormat.parse_record.Goals as goal

pub returns-in-Err : goal.returns-in-Err
returns-in-Err c = search rules

pub returns-in-Err-Memory-clause-on_error : goal.returns-in-Err-Memory-clause-on_error
returns-in-Err-Memory-clause-on_error c = inl (refl, c.in-Err-Memory.ensures.memory c.in-Err-Memory.field-0-is)
