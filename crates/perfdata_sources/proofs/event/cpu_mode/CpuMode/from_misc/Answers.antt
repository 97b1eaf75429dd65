use Rattle.std.proofs.Common.{arith}
use Rattle.std.proofs.lemmas.Grind.{common_steps}
use Rattle.perfdata_sources.proofs.event.cpu_mode.CpuMode.from_misc.Goals as goal

pub returns-in-1 : goal.returns-in-1
returns-in-1 c = grind (arith, common_steps)

pub returns-in-2 : goal.returns-in-2
returns-in-2 c = grind (arith, common_steps)

pub returns-in-3 : goal.returns-in-3
returns-in-3 c = grind (arith, common_steps)

pub returns-in_default : goal.returns-in_default
returns-in_default c = grind (arith, common_steps)
