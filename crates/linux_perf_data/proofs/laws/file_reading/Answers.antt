use Rattle.linux_perf_data.proofs.FileReadings as lemma
use Rattle.linux_perf_data.proofs.laws.file_reading.Goals as goal

pub returns : goal.returns
returns g c = record {
  partly = lemma.file_so_far g.R.Source.state;
  end = lemma.file_whole g.R.Source.state;
  to_error = lemma.file_to_error g.R.Source.state;
}
