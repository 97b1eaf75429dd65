use Rattle.std.proofs.Common.{arith}
use Rattle.std.proofs.lemmas.Grind.{common_steps}
use Rattle.perfdata_sources.proofs.source.counted_buffer.CountedBufferSource.append_buffered.Goals as goal

pub returns-clause-takes_from_buffer : goal.returns-clause-takes_from_buffer
returns-clause-takes_from_buffer g c = grind (arith, common_steps)
