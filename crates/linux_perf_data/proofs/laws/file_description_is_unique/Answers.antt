use Rattle.linux_perf_data.proofs.FileUniqueness as lemma
use Rattle.linux_perf_data.proofs.laws.file_description_is_unique.Goals as goal

pub returns : goal.returns
returns c = λ p h i f g x y. lemma.file_description_is_unique p h i f g x y
