use Rattle.std.proofs.Common.{ap, arith, length}
use Rattle.std.proofs.lemmas.Result.{err_from_is_err_and}
use Rattle.std.specs.String.{string_bytes}
use Rattle.pprof.specs.Wire.{bytes_field}
use Rattle.pprof.proofs.Writing.{all_texts, none, then_fields}
use Rattle.pprof.proofs.encode.push_texts.Goals as goal

pub texts-init : goal.texts-init
texts-init c = none c.args.bytes.now.items

pub texts-preserved : goal.texts-preserved
texts-preserved c = then_fields c.args.texts.now c.texts.text-index c.text-item.result (λ text. bytes_field c.args.field (string_bytes text)) c.texts-test.true c.text-item.is c.texts.invariant
    (rw (← c.as_bytes.ensures.value) c.in_ok-push_bytes.ensures)

pub returns-clause-fields : goal.returns-clause-fields
returns-clause-fields c = all_texts c.args.field c.args.texts.now c.texts.text-index c.texts-test.false c.texts.invariant

pub returns-in_err-push_bytes-clause-memory : goal.returns-in_err-push_bytes-clause-memory
returns-in_err-push_bytes-clause-memory c =
    let p = err_from_is_err_and c.from_residual.result c.from_residual.ensures.1 in
    rw p.1 (λ is. omega (arith, c.texts-test.true, ap (λ texts. length texts) is))
