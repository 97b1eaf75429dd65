-- the bytes that were accepted so far are in the writer
use Rattle.std.proofs.Common.{◌-◌, ◌≤◌, length, take}
use Rattle.std.specs.Io.KnownBytes.{Appends}
use Rattle.perfdata_listing_lines.proofs.output.write_all_counted.Given as goal

abbrev pub invariant-writes : goal.invariant-writes
invariant-writes g l = (l.total ≤ length l.bytes) × Appends (g.W.Write.contents l.initial.out) (g.W.Write.contents l.out) (take l.total l.bytes)

abbrev pub decreases-writes : goal.decreases-writes
decreases-writes g l = length l.bytes - l.total
