use Rattle.std.proofs.Common.{arith, rules}
use Rattle.std.proofs.lemmas.Grind.{common_steps}
use Rattle.perfdata_jit.proofs.read_buffer.ReadBuffer.compact_overflow.Goals as goal

pub invariant_of-self : goal.invariant_of-self
invariant_of-self c = search rules

pub returns-then-self-gt0-clause-bytes : goal.returns-then-self-gt0-clause-bytes
returns-then-self-gt0-clause-bytes c = grind (arith, common_steps)

pub returns-then-self-gt0-clause-overflow : goal.returns-then-self-gt0-clause-overflow
returns-then-self-gt0-clause-overflow c = grind (arith, common_steps)
