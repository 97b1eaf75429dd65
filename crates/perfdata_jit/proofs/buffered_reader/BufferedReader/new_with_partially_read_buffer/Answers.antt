use Rattle.std.proofs.Common.{rules}
use Rattle.perfdata_jit.proofs.buffered_reader.BufferedReader.new_with_partially_read_buffer.Goals as goal

pub returns-clause-buffered : goal.returns-clause-buffered
returns-clause-buffered g c = search rules
