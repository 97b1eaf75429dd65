use Rattle.perfdata_listing.proofs.ListingLemmas.{plain_lines_are_record_lines}
use Rattle.perfdata_listing.proofs.laws.plain_lines_are_record_lines.Goals as goal

pub returns : goal.returns
returns c = λ records text lines. plain_lines_are_record_lines lines
