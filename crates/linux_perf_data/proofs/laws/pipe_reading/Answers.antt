use Rattle.linux_perf_data.proofs.PipeReadings as lemma
use Rattle.linux_perf_data.proofs.laws.pipe_reading.Goals as goal

pub returns : goal.returns
returns g c = record {
  partly = lemma.pipe_up_to_record g.R.Source.state;
  end = lemma.pipe_up_to_end g.R.Source.state;
  to_error = lemma.pipe_up_to_error g.R.Source.state;
}
