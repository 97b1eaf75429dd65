use Rattle.std.proofs.Common.{◌-◌}
use Rattle.code_dwarf.proofs.intervals.Segments.add.Given as goal

abbrev pub decreases-segments : goal.decreases-segments
decreases-segments l = l.end - l.segment
