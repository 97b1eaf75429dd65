use Rattle.linux_perf_data.proofs.PipeOpeningUniqueness as lemma
use Rattle.linux_perf_data.proofs.laws.pipe_opening_is_unique.Goals as goal

pub returns : goal.returns
returns c = record {
  one = λ order ps qs suffix later x y ends ends' same. lemma.pipe_opening_is_unique order ps qs suffix later x y ends ends' same;
  exists = λ order header ps suffix e is are ends opens stops. lemma.described_pipe_opens order header ps suffix e is are ends opens stops;
}
