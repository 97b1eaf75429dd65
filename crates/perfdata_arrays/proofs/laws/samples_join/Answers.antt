use Rattle.perfdata_arrays.proofs.DecodedChainLemmas as lemma
use Rattle.perfdata_arrays.proofs.laws.samples_join.Goals as goal

pub returns : goal.returns
returns c = lemma.samples_join
