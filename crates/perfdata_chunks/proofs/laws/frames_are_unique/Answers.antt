use Rattle.perfdata_chunks.proofs.ChunkLemmas as lemma
use Rattle.perfdata_chunks.proofs.laws.frames_are_unique.Goals as goal

pub returns : goal.returns
returns c = lemma.frames_are_unique
