use Rattle.perfdata_arrays.proofs.DecodedChainLemmas as lemma
use Rattle.perfdata_arrays.proofs.laws.sample_page_is_unique.Goals as goal

pub returns : goal.returns
returns c = lemma.sample_page_is_unique
