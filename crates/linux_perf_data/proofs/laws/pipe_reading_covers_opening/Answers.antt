use Rattle.linux_perf_data.proofs.PipeReadings.{longest_run, opening_has_no_error}
use Rattle.linux_perf_data.proofs.laws.pipe_reading_covers_opening.Goals as goal

pub returns : goal.returns
returns c = record {
  longest = λ order pieces longest header suffix old o are ends is. longest_run order pieces header old o longest suffix are ends is;
  exists = λ order pieces header old o. opening_has_no_error order pieces header old o;
}
