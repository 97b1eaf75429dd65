use Rattle.perfdata_arrays.proofs.PageUniqueness as lemma
use Rattle.perfdata_arrays.proofs.laws.pages_join.Goals as goal

pub returns : goal.returns
returns c = lemma.pages_join
