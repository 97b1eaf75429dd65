use Rattle.linux_perf_data.proofs.DescribedFiles as lemma
use Rattle.linux_perf_data.proofs.laws.described_file_opens.Goals as goal

pub returns : goal.returns
returns c = λ p h file e is stops. lemma.described_file_opens p h file e is stops
