use Rattle.perfdata_listing.proofs.NewlineCounts.{newline_count-record_lines}
use Rattle.perfdata_listing.proofs.laws.one_line_per_record.Goals as goal

pub returns : goal.returns
returns c = newline_count-record_lines
