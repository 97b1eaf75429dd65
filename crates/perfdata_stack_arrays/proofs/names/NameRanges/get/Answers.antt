use Rattle.std.proofs.Common.{w32}
use Rattle.std.proofs.lemmas.Int.{to_z-of_z}
use Rattle.perfdata_stack_arrays.proofs.names.NameRanges.get.Goals as goal

pub returns-in-Some : goal.returns-in-Some
returns-in-Some c = rw (to_z-of_z w32 c.args.tid c.ranges.tid) at c.in-Some.ensures.value

pub returns-in-None : goal.returns-in-None
returns-in-None c = rw (to_z-of_z w32 c.args.tid c.ranges.tid) at c.in-None.ensures.value
