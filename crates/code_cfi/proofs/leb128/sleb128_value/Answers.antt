use Rattle.std.proofs.Common.{◌-◌, ◌<◌, arith, subst, sym}
use Rattle.std.specs.Prelude.{FitsSigned}
use Rattle.std.specs.Int.{cast_signed, w64}
use Rattle.code_cfi.proofs.NumberLemmas.{fits_drop, sleb128_before}
use Rattle.code_cfi.proofs.leb128.sleb128_value.Goals as goal

pub returns-in-None-clause-none : goal.returns-in-None-clause-none
returns-in-None-clause-none c = λ fits.
    let bs = c.args.bytes.now in
    let some : 0 < c.bytes.left = omega (arith, c.bytes-test.true) in
    let before = sleb128_before bs c.bytes.left (cast_signed w64 c.bytes.value-bits) some c.bytes.invariant.within c.bytes.invariant.value in
    c.in-None.ensures (subst (FitsSigned w64) (sym before) (fits_drop (c.bytes.left - 1) bs (omega (arith, c.bytes.invariant.within)) fits))
