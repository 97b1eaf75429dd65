use Rattle.std.proofs.Common.{length}
use Rattle.code_dwarf.proofs.ranges.RangeContext.add_list.Given as goal

abbrev pub decreases-entries : goal.decreases-entries
decreases-entries l = length l.rest
