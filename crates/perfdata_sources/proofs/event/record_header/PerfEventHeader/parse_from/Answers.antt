use Rattle.std.proofs.Common.{rules}
use Rattle.perfdata_sources.proofs.event.record_header.PerfEventHeader.parse_from.Goals as goal

pub returns-clause-parses : goal.returns-clause-parses
returns-clause-parses g c = search rules
