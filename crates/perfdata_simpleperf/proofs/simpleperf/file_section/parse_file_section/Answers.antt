use Rattle.perfdata_simpleperf.proofs.ChunkLemmas.{without_chunk}
use Rattle.perfdata_simpleperf.proofs.FileRecords.{only_records, first_record}
use Rattle.perfdata_simpleperf.proofs.simpleperf.file_section.parse_file_section.Goals as goal

pub returns-clause-no_other : goal.returns-clause-no_other
returns-clause-no_other c = only_records c.args.endian _ _ c.parse_chunks.ensures.on_ok (without_chunk c.parse_chunks.result _ _ c.parse_chunks.ensures.on_error)

pub returns-clause-first_error : goal.returns-clause-first_error
returns-clause-first_error c = first_record c.args.endian _ _ c.parse_chunks.ensures.on_ok (without_chunk c.parse_chunks.result _ _ c.parse_chunks.ensures.on_error)

pub returns-clause-on_error : goal.returns-clause-on_error
returns-clause-on_error c = without_chunk c.parse_chunks.result _ _ c.parse_chunks.ensures.on_error
