use Rattle.std.proofs.Common.{◌≡◌, ◌+◌, length}
use Rattle.perfdata_listing_lines.specs.Output.{newline_count}
use Rattle.perfdata_listing_lines.proofs.output.count_newlines.Given as goal

abbrev pub decreases-blocks-2 : goal.decreases-blocks-2
decreases-blocks-2 l = length l.remaining

abbrev pub invariant-blocks-2 : goal.invariant-blocks-2
invariant-blocks-2 l = l.lines + newline_count l.remaining ≡ newline_count l.bytes
