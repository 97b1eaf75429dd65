use Rattle.std.proofs.Common.{rules}
use Rattle.perfdata_jit.proofs.header.endian_of_magic.Goals as goal

pub returns-then-eq-clause-some : goal.returns-then-eq-clause-some
returns-then-eq-clause-some c = search rules
