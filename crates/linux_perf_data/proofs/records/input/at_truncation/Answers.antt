use Rattle.std.proofs.Common.{rules}
use Rattle.linux_perf_data.proofs.records.input.at_truncation.Goals as goal

pub returns-in-Pipe : goal.returns-in-Pipe
returns-in-Pipe c = search rules

pub returns-in-Section : goal.returns-in-Section
returns-in-Section c = search rules
