use Rattle.std.proofs.Common.{arith}
use Rattle.std.proofs.lemmas.Grind.{common_steps}
use Rattle.perfdata_sources.proofs.source.slices.RefSliceU8Source.append_buffered.Goals as goal

pub returns-clause-appends : goal.returns-clause-appends
returns-clause-appends c = grind (arith, common_steps)
