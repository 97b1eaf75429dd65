use Rattle.std.proofs.Common.{OnOk}
use Rattle.pprof.specs.Messages.{line_fields}
use Rattle.pprof.specs.Wire.{message_fields}
use Rattle.pprof.specs.steps.Wire.{Appends}
use Rattle.pprof.proofs.Writing.{last, more}
use Rattle.pprof.proofs.encode.LocationMessage.push.Goals as goal

pub returns : goal.returns
returns c =
    let l = c.args.self.now in
    let lines : OnOk c.push_messages.result (Appends c.push_number-3.new.bytes.items (message_fields 4 line_fields l.lines.items) c.push_messages.new.bytes.items) =
    rw (← c.as_slice.ensures.value) c.push_messages.ensures.fields in
    last (message_fields 4 line_fields l.lines.items) c.push_messages.new.bytes.items c.push_messages.result (more (more c.in_ok-push_number.ensures.fields c.in_ok-push_number-2.ensures.fields) c.in_ok-push_number-3.ensures.fields) lines
