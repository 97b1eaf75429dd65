use Rattle.std.proofs.Common.{◌≡◌, ◌-◌, ◌<◌, ◌∙◌, ap, drop, arith}
use Rattle.code_cfi.specs.Numbers.{uleb128_value}
use Rattle.code_cfi.proofs.NumberLemmas.{uleb128_before, uleb128_drop}
use Rattle.code_cfi.proofs.leb128.uleb128_value.Goals as goal

pub returns-in-None : goal.returns-in-None
returns-in-None c =
    let bs = c.args.bytes.now in
    let some : 0 < c.bytes.left = omega (arith, c.bytes-test.true) in
    let now = uleb128_before bs c.bytes.left c.bytes.value some c.bytes.invariant.within c.bytes.invariant.value in
    let up = uleb128_drop (c.bytes.left - 1) bs in
    λ fits. c.in-None.ensures (omega (arith, now, up, fits))

pub returns : goal.returns
returns c =
    let bs = c.args.bytes.now in
    let zero_left : c.bytes.left ≡ 0 = omega (arith, c.bytes-test.false) in
    let is : c.bytes.value ≡ uleb128_value bs = c.bytes.invariant.value ∙ ap (λ k. uleb128_value (drop k bs)) zero_left in
    let fits = c.bytes.invariant.fits in
    (omega (arith, is, fits), is)
