use Rattle.std.proofs.Common.{rules}
use Rattle.perfdata_sections.proofs.feature_sections.number_sections.SampleTimeRange.parse_with_endian.Goals as goal

pub returns-clause-parses : goal.returns-clause-parses
returns-clause-parses g c = record { bytes = c.read_exact.new.buf; consumes = c.in_ok-read_exact.ensures.reads; matches = (search rules, search rules) }
