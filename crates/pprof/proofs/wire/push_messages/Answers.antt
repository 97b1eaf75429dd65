use Rattle.std.proofs.Common.{ap, arith, length}
use Rattle.std.proofs.lemmas.Result.{err_from_is_err_and}
use Rattle.pprof.specs.Wire.{message_field}
use Rattle.pprof.proofs.Writing.{none, then_fields}
use Rattle.pprof.proofs.wire.push_messages.Goals as goal

pub messages-init : goal.messages-init
messages-init g c = none c.args.bytes.now.items

pub messages-preserved : goal.messages-preserved
messages-preserved g c = then_fields c.args.messages.now c.messages.message-index c.message-item.result (λ m. message_field c.args.field (g.M.Message.fields m)) c.messages-test.true c.message-item.is c.messages.invariant c.in_ok-push_message.ensures

pub returns-in_err-push_message-clause-memory : goal.returns-in_err-push_message-clause-memory
returns-in_err-push_message-clause-memory g c =
    let p = err_from_is_err_and c.from_residual.result c.from_residual.ensures.1 in
    rw p.1 (λ is. omega (arith, c.messages-test.true, ap (λ messages. length messages) is))
