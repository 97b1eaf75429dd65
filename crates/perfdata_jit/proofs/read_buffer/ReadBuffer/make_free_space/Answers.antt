use Rattle.std.proofs.Common.{arith}
use Rattle.perfdata_jit.proofs.read_buffer.ReadBuffer.make_free_space.Goals as goal

pub returns-clause-free_space : goal.returns-clause-free_space
returns-clause-free_space c = omega arith
