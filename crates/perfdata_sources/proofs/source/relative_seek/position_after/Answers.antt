use Rattle.std.proofs.Common.{rules}
use Rattle.perfdata_sources.proofs.source.relative_seek.position_after.Goals as goal

pub returns-in-Some : goal.returns-in-Some
returns-in-Some c = search rules
