use Rattle.perfdata_arrays.proofs.PageUniqueness as lemma
use Rattle.perfdata_arrays.proofs.laws.page_is_unique.Goals as goal

pub returns : goal.returns
returns c = lemma.page_is_unique
