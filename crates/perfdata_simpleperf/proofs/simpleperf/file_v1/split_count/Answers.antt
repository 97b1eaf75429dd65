use Rattle.std.proofs.Common.{rules}
use Rattle.perfdata_simpleperf.proofs.simpleperf.file_v1.split_count.Goals as goal

pub returns-clause-on_ok : goal.returns-clause-on_ok
returns-clause-on_ok g c = search rules
