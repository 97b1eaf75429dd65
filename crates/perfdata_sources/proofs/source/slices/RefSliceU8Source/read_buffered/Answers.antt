use Rattle.std.proofs.Common.{rules}
use Rattle.perfdata_sources.proofs.source.slices.RefSliceU8Source.read_buffered.Goals as goal

pub returns-clause-reads_buffered : goal.returns-clause-reads_buffered
returns-clause-reads_buffered c = search rules
