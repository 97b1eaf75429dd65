use Rattle.perfdata_arrays.proofs.DecodedChainLemmas as lemma
use Rattle.perfdata_arrays.proofs.laws.chain_is_one_sample_page.Goals as goal

pub returns : goal.returns
returns c = lemma.chain_is_one_sample_page
