use Rattle.perfdata_arrays.proofs.DecodedChainLemmas as lemma
use Rattle.perfdata_arrays.proofs.laws.samples_are_unique.Goals as goal

pub returns : goal.returns
returns c = lemma.samples_are_unique
