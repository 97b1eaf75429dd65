use Rattle.std.proofs.Common.{◌+◌, ◌-◌, ◌<◌, length, get_or, refl, arith}
use Rattle.code_cfi.proofs.NumberLemmas.{fixed_before, fixed_power, power_fits}
use Rattle.code_cfi.proofs.leb128.little_endian.Goals as goal

pub overflow_mul-value : goal.overflow_mul-value
overflow_mul-value c =
    let bs = c.args.bytes.now in
    let n = length bs - c.bytes.left in
    let byte = c.type_inv.bytes (c.bytes.left - 1) in
    let low = fixed_power c.bytes.value (get_or bs (c.bytes.left - 1) 0) n (n + 1) c.bytes.invariant.fits (omega (arith, byte)) refl in
    let high = power_fits (n + 1) (omega (arith, c.requires, c.bytes-test.true, c.bytes.invariant.within)) in
    omega (arith, low, high)

pub overflow_add-value : goal.overflow_add-value
overflow_add-value c =
    let bs = c.args.bytes.now in
    let n = length bs - c.bytes.left in
    let byte = c.type_inv.bytes (c.bytes.left - 1) in
    let low = fixed_power c.bytes.value (get_or bs (c.bytes.left - 1) 0) n (n + 1) c.bytes.invariant.fits (omega (arith, byte)) refl in
    let high = power_fits (n + 1) (omega (arith, c.requires, c.bytes-test.true, c.bytes.invariant.within)) in
    omega (arith, low, high)

pub bytes-preserved : goal.bytes-preserved
bytes-preserved c =
    let bs = c.args.bytes.now in
    let n = length bs - c.bytes.left in
    let byte = c.type_inv.bytes (c.bytes.left - 1) in
    let some : 0 < c.bytes.left = omega (arith, c.bytes-test.true) in
    record {
      within = omega (arith, c.bytes.invariant.within);
      value = fixed_before bs c.bytes.left c.bytes.value (get_or bs (c.bytes.left - 1) 0) some c.bytes.invariant.within c.bytes.invariant.value refl;
      fits = fixed_power c.bytes.value (get_or bs (c.bytes.left - 1) 0) n (length bs - (c.bytes.left - 1)) c.bytes.invariant.fits (omega (arith, byte)) (omega (arith, some, c.bytes.invariant.within));
    }
