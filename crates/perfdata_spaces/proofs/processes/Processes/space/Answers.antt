use Rattle.std.proofs.Common.{w32}
use Rattle.std.proofs.lemmas.Int.{to_z-of_z}
use Rattle.perfdata_spaces.proofs.processes.Processes.space.Goals as goal

pub returns : goal.returns
returns c = rw (to_z-of_z w32 c.args.pid c.ranges.pid) at c.get.ensures.value
