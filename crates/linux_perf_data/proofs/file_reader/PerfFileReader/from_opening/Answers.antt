use Rattle.std.proofs.Common.{rules}
use Rattle.linux_perf_data.proofs.file_reader.PerfFileReader.from_opening.Goals as goal

pub returns : goal.returns
returns g c = search rules
