use Rattle.std.proofs.Common.{rules}
use Rattle.linux_perf_data.proofs.records.framing.read_aux_data.Goals as goal

pub returns-clause-reads : goal.returns-clause-reads
returns-clause-reads g c = search rules
