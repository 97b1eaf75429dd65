use Rattle.std.proofs.Common.{◌≤◌}
use Rattle.code_dwarf.proofs.intervals.Segments.find_free.Given as goal

abbrev pub invariant-segments : goal.invariant-segments
invariant-segments l = l.segment ≤ l.at
