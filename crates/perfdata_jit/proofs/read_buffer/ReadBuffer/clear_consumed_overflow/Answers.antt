use Rattle.std.proofs.Common.{arith}
use Rattle.perfdata_jit.proofs.Contiguous.{emptied_contiguous}
use Rattle.perfdata_jit.proofs.read_buffer.ReadBuffer.clear_consumed_overflow.Goals as goal

pub returns-then-self-len-clause-keeps_contiguous : goal.returns-then-self-len-clause-keeps_contiguous
returns-then-self-len-clause-keeps_contiguous c = λ m at. emptied_contiguous m c.truncate.new.self.len c.args.self.now (omega arith) (omega (arith, c.truncate.ensures.len)) at
