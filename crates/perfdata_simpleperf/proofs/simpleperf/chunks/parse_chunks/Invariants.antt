use Rattle.std.proofs.Common.{length, map}
use Rattle.perfdata_simpleperf.specs.FileRecord.{record_value}
use Rattle.perfdata_simpleperf.specs.Chunks.{ChunksAt}
use Rattle.perfdata_simpleperf.proofs.simpleperf.chunks.parse_chunks.Given as goal

abbrev pub invariant-chunks : goal.invariant-chunks
invariant-chunks g l = ChunksAt l.endian (g.S.ChunkFormat.decodes_to l.endian) l.bytes (map record_value l.records.items) l.rest

abbrev pub decreases-chunks : goal.decreases-chunks
decreases-chunks g l = length l.rest
