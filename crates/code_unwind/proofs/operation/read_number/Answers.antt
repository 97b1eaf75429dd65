use Rattle.std.proofs.Common.{refl}
use Rattle.code_unwind.proofs.operation.read_number.Goals as goal

pub returns-in-Err-clause-none : goal.returns-in-Err-clause-none
returns-in-Err-clause-none c = rw c.in-Uleb128.is (refl, λ n rest at. c.in-Err.ensures.none n rest at.0)

pub returns-in-Err-read_sleb128-clause-none : goal.returns-in-Err-read_sleb128-clause-none
returns-in-Err-read_sleb128-clause-none c = rw c.in-Sleb128.is (refl, λ n rest at. c.in-Err-read_sleb128.ensures.none at.0 rest at.1)
