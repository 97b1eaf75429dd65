use Rattle.std.proofs.Common.{◌%◌, ◌<◌, arith}
use Rattle.std.specs.Prelude.{pos, ◌+ℤ◌, ◌*ℤ◌}
use Rattle.std.proofs.lemmas.Int.{ints}
use Rattle.code_cfi.proofs.NumberLemmas.{fits_low, fits_high, fits_between}
use Rattle.code_cfi.proofs.leb128.with_low_signed_bits.Goals as goal

pub returns-in-None : goal.returns-in-None
returns-in-None c = λ fits.
    let low = fits_low (c.args.high *ℤ pos 128 +ℤ pos (c.args.byte % 128)) fits in
    let high = fits_high (c.args.high *ℤ pos 128 +ℤ pos (c.args.byte % 128)) fits in
    let byte : c.args.byte % 128 < 128 = omega arith in
    c.in-None.ensures (fits_between _ (omega (arith, ints, low, high, byte)) (omega (arith, ints, low, high, byte)))
