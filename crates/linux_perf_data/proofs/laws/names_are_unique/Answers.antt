use Rattle.linux_perf_data.proofs.EventDescNames as lemma
use Rattle.linux_perf_data.proofs.laws.names_are_unique.Goals as goal

pub returns : goal.returns
returns c = record {
  no_names_on_error = λ order e bytes none. lemma.error_or_readable order e bytes none;
  determined = λ order desc ds es x y ids. lemma.names_are_unique order desc ds es x y ids;
}
