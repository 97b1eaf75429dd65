use Rattle.std.proofs.Common.{take}
use Rattle.pprof.specs.Wire.{message_fields}
use Rattle.pprof.specs.steps.Wire.{Appends}
use Rattle.pprof.proofs.wire.push_messages.Given as goal

abbrev pub invariant-messages : goal.invariant-messages
invariant-messages g l = Appends l.initial.bytes.items (message_fields l.field g.M.Message.fields (take l.message-index l.messages)) l.bytes.items
