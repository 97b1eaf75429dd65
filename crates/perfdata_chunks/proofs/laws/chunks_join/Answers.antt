use Rattle.perfdata_chunks.proofs.ChunkLemmas as lemma
use Rattle.perfdata_chunks.proofs.laws.chunks_join.Goals as goal

pub returns : goal.returns
returns c = lemma.chunks_join
