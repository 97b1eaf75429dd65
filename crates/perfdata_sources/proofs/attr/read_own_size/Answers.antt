use Rattle.std.proofs.Common.{rules}
use Rattle.perfdata_sources.proofs.attr.read_own_size.Goals as goal

pub returns-clause-reads : goal.returns-clause-reads
returns-clause-reads g c = search rules
