use Rattle.std.proofs.Common.{rules}
use Rattle.perfdata_sources.proofs.source.counted_buffer.CountedBufferSource.read_front.Goals as goal

pub returns-after-count-eq0-clause-position : goal.returns-after-count-eq0-clause-position
returns-after-count-eq0-clause-position g c = search rules
