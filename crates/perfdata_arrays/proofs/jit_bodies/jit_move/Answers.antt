use Rattle.std.proofs.Common.{refl, inr}
use Rattle.perfdata_arrays.proofs.jit_bodies.jit_move.Goals as goal

pub returns-in-Err : goal.returns-in-Err
returns-in-Err c = inr (c.in-Err.ensures.body, refl)
