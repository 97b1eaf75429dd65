use Rattle.std.proofs.Common.{◌≡◌, take}
use Rattle.perfdata_listing_lines.specs.Output.{newline_count}
use Rattle.perfdata_listing_lines.proofs.output.count_newlines_in_block.Given as goal

abbrev pub invariant-bytes : goal.invariant-bytes
invariant-bytes l = l.lines ≡ newline_count (take l.byte-index l.bytes)
