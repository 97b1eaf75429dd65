use Rattle.std.proofs.Common.{refl}
use Rattle.code_unwind.proofs.step.find_by_row.Goals as goal

pub returns : goal.returns
returns c = λ index address at. record {
  row = c.args.row.now;
  row_at = at;
  callee = c.frame_callee-callee.result;
  callee_is = c.frame_callee-callee.ensures;
  by_row = c.set_registers_by_row-end.ensures;
  signal_is = refl;
  origin_is = c.row_origin.ensures;
}
