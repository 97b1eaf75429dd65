use Rattle.std.proofs.Common.{arith}
use Rattle.demangle_text.proofs.HexLemmas.{hex_step, hex_stop, hex_whole}
use Rattle.demangle_text.proofs.hex.hex_number.Goals as goal

pub returns-in_err-number : goal.returns-in_err-number
returns-in_err-number c = rw c.from_residual.ensures (hex_stop c.args.digits.now c.digits.byte-index c.digits.number c.digits-test.true c.digits.invariant.1 c.in_err-number.ensures)

pub digits-preserved : goal.digits-preserved
digits-preserved c =
    let step = hex_step c.args.digits.now c.digits.byte-index c.digits.number c.in_ok-number.number c.digits-test.true c.digits.invariant.0 c.digits.invariant.1 c.in_ok-number.ensures.0.0 c.in_ok-number.ensures.1 in
    (step.0, step.1, omega (arith, c.in_ok-number.ensures.0.1, c.in_ok-number.ensures.1))

pub returns : goal.returns
returns c =
    hex_whole c.args.digits.now c.digits.byte-index c.digits.number (omega (arith, c.digits-test.false)) c.digits.invariant.0 c.digits.invariant.1 c.digits.invariant.2
