use Rattle.perfdata_listing.proofs.JitListingLemmas.{newline_count-jit_lines}
use Rattle.perfdata_listing.proofs.laws.one_line_per_jit_record.Goals as goal

pub returns : goal.returns
returns c = newline_count-jit_lines
