use Rattle.linux_perf_data.proofs.InMemoryReadings.{same_records, same_end, same_error}
use Rattle.linux_perf_data.proofs.in_memory.laws.same_as_streaming.Goals as goal

pub returns : goal.returns
returns c = record { records = same_records; end = same_end; error = same_error }
