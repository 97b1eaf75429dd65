use Rattle.std.proofs.Common.{rules}
use Rattle.linux_perf_data.proofs.perf_file.PerfFile.feature_section_data.Goals as goal

pub returns : goal.returns
returns c = search rules
