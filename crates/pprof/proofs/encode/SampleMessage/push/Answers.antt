use Rattle.std.proofs.Common.{OnOk}
use Rattle.pprof.specs.Messages.{label_fields}
use Rattle.pprof.specs.Wire.{message_fields, packed_field}
use Rattle.pprof.specs.steps.Wire.{Appends}
use Rattle.pprof.proofs.Writing.{last, more}
use Rattle.pprof.proofs.encode.SampleMessage.push.Goals as goal

pub returns : goal.returns
returns c =
    let s = c.args.self.now in
    let ids : Appends c.args.bytes.now.items (packed_field 1 s.location_ids.items) c.push_packed.new.bytes.items =
    rw (← c.as_slice.ensures.value) c.in_ok-push_packed.ensures in
    let values : Appends c.push_packed.new.bytes.items (packed_field 2 s.values.items) c.push_packed-2.new.bytes.items =
    rw (← c.as_slice-2.ensures.value) c.in_ok-push_packed-2.ensures in
    let labels : OnOk c.push_messages.result (Appends c.push_packed-2.new.bytes.items (message_fields 3 label_fields s.labels.items) c.push_messages.new.bytes.items) =
    rw (← c.as_slice-3.ensures.value) c.push_messages.ensures.fields in
    last (message_fields 3 label_fields s.labels.items) c.push_messages.new.bytes.items c.push_messages.result (more ids values) labels
