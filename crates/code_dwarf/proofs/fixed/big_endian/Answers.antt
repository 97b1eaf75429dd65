use Rattle.std.proofs.Common.{◌+◌, get_or, refl, arith}
use Rattle.code_cfi.proofs.NumberLemmas.{fixed_power, power_fits}
use Rattle.code_dwarf.proofs.NumberLemmas.{number_push}
use Rattle.code_dwarf.proofs.fixed.big_endian.Goals as goal

pub overflow_mul-value : goal.overflow_mul-value
overflow_mul-value c =
    let byte = c.type_inv.bytes c.bytes.byte-index in
    let low = fixed_power c.bytes.value (get_or c.args.bytes.now c.bytes.byte-index 0) c.bytes.byte-index (c.bytes.byte-index + 1) c.bytes.invariant.fits (omega (arith, byte)) refl in
    let high = power_fits (c.bytes.byte-index + 1) (omega (arith, c.requires)) in
    omega (arith, low, high)

pub overflow_add-value : goal.overflow_add-value
overflow_add-value c =
    let byte = c.type_inv.bytes c.bytes.byte-index in
    let low = fixed_power c.bytes.value (get_or c.args.bytes.now c.bytes.byte-index 0) c.bytes.byte-index (c.bytes.byte-index + 1) c.bytes.invariant.fits (omega (arith, byte)) refl in
    let high = power_fits (c.bytes.byte-index + 1) (omega (arith, c.requires)) in
    omega (arith, low, high)

pub bytes-preserved : goal.bytes-preserved
bytes-preserved c =
    let byte = c.type_inv.bytes c.bytes.byte-index in
    record {
      value = number_push c.args.bytes.now c.bytes.byte-index c.bytes.value (omega arith) c.bytes.invariant.value;
      fits = fixed_power c.bytes.value (get_or c.args.bytes.now c.bytes.byte-index 0) c.bytes.byte-index (c.bytes.byte-index + 1) c.bytes.invariant.fits (omega (arith, byte)) refl;
    }
