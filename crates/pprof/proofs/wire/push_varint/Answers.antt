use Rattle.std.proofs.Common.{◌∙◌, ◌++◌, ◌∷◌, [], ◌+◌, ◌%◌, ◌/◌, List, ℕ, ap, append_assoc, sym}
use Rattle.pprof.specs.Wire.{varint}
use Rattle.pprof.proofs.Numbers.{varint_large, varint_small}
use Rattle.pprof.proofs.wire.push_varint.Goals as goal

pub digits-preserved : goal.digits-preserved
digits-preserved c =
    let bytes = c.digits.bytes.items in
    let digit = c.digits.rest % 128 + 128 in
    let step = varint_large c.digits.rest c.digits-test.true in
    rw c.in_ok-push.ensures.items (append_assoc bytes (digit ∷ []) (varint (c.digits.rest / 128))
    ∙ (ap (λ (bs : List ℕ). bytes ++ bs) (sym step) ∙ c.digits.invariant))

pub returns : goal.returns
returns c =
    let step = varint_small c.digits.rest c.digits-test.false in
    c.in_ok-push-2.ensures.items ∙ (ap (λ (bs : List ℕ). c.digits.bytes.items ++ bs) (sym step) ∙ c.digits.invariant)
