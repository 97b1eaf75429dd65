use Rattle.std.proofs.Common.{w32}
use Rattle.std.proofs.lemmas.Int.{to_z-of_z}
use Rattle.perfdata_spaces.proofs.spaces.Spaces.find_index.Goals as goal

pub returns-in-User : goal.returns-in-User
returns-in-User c = rw c.in-User.is (rw (to_z-of_z w32 c.args.pid c.ranges.pid) at c.get.ensures)
