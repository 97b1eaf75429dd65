use Rattle.std.proofs.Common.{rules}
use Rattle.linux_perf_data.proofs.records.framing.skip_body.Goals as goal

pub returns-in-Err-clause-skips : goal.returns-in-Err-clause-skips
returns-in-Err-clause-skips g c = search rules
