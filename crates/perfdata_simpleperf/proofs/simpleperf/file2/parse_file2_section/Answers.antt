use Rattle.perfdata_simpleperf.proofs.ChunkLemmas.{without_chunk}
use Rattle.perfdata_simpleperf.proofs.File2.{only_messages, first_message, file2_memory}
use Rattle.perfdata_simpleperf.proofs.simpleperf.file2.parse_file2_section.Goals as goal

pub returns-clause-no_other : goal.returns-clause-no_other
returns-clause-no_other c = only_messages _ _ _ c.parse_chunks.ensures.on_ok (without_chunk c.parse_chunks.result _ _ c.parse_chunks.ensures.on_error)

pub returns-clause-first_error : goal.returns-clause-first_error
returns-clause-first_error c = first_message _ _ _ c.parse_chunks.ensures.on_ok (without_chunk c.parse_chunks.result _ _ c.parse_chunks.ensures.on_error)

pub returns-clause-on_error : goal.returns-clause-on_error
returns-clause-on_error c = without_chunk c.parse_chunks.result _ _ c.parse_chunks.ensures.on_error

pub returns-clause-memory : goal.returns-clause-memory
returns-clause-memory c = file2_memory c.args.endian c.args.bytes.now c.parse_chunks.result c.parse_chunks.ensures.on_error
