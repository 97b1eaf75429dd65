use Rattle.std.proofs.Common.{rules}
use Rattle.linux_perf_data.proofs.records.buffered.may_start_record.Goals as goal

pub returns-then-offset-size : goal.returns-then-offset-size
returns-then-offset-size c = search rules
