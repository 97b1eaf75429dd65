use Rattle.std.proofs.Common.{rules}
use Rattle.perfdata_simpleperf.proofs.simpleperf.file_section.V1RecordsChunkFormat.parse_record.Goals as goal

pub returns-in-OutOfMemory-clause-on_error : goal.returns-in-OutOfMemory-clause-on_error
returns-in-OutOfMemory-clause-on_error c = search rules
