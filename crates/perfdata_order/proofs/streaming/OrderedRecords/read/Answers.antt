use Rattle.std.proofs.Common.{refl, ap}
use Rattle.perfdata_order.specs.HeldRecord.{view_with}
use Rattle.perfdata_order.specs.StreamingOrder.{unplaced_by}
use Rattle.perfdata_order.specs.StreamingOrder.Unplaced.{waiting}
use Rattle.perfdata_order.specs.declared.streaming.PendingStep.TheVariants.{Record}
use Rattle.perfdata_order.proofs.StreamingCalls.{read_and_inserted, read_and_copied}
use Rattle.perfdata_order.proofs.streaming.OrderedRecords.read.Goals as goal

pub returns-in-Ok-Some-Held : goal.returns-in-Ok-Some-Held
returns-in-Ok-Some-Held g c = λ none_available.
    let old = c.args.self.now in
    let new = record old { records = c.read_record.new.records; held = c.read_record.new.held; body = c.read_record.new.copy; held_bytes = c.saturating_add-self.result } in
    let read = rw c.in-Ok-Some-Held.field-0-0-is at (rw c.in-Ok-Some-Held.field-0-is at c.in-Ok-Some-Held.ensures) in
    read_and_inserted g.R.Source.state old new c.args.perf_file.now c.read_record.new.perf_file c.insertable_round-last_round.result c.in-Ok-Some-Held.size c.try_reserve.new.self (ap (λ p. unplaced_by p old.body.items) c.in-Nothing.is)
    c.insertable_round-last_round.ensures read (ap (λ p. unplaced_by p c.read_record.new.copy.items) c.in-Nothing.is) refl refl refl c.saturating_add-self.ensures

pub returns-in-Ok-Some-Copied : goal.returns-in-Ok-Some-Copied
returns-in-Ok-Some-Copied g c = λ none_available.
    let old = c.args.self.now in
    let envelope = c.in-Ok-Some-Copied.envelope in
    let new = record old { records = c.read_record.new.records; held = c.read_record.new.held; body = c.read_record.new.copy; pending = Record c.time_key.result envelope } in
    let read = rw c.in-Ok-Some-Copied.field-0-0-is at (rw c.in-Ok-Some-Copied.field-0-is at c.in-Ok-Some-Copied.ensures) in
    read_and_copied g.R.Source.state old new c.args.perf_file.now c.read_record.new.perf_file envelope (ap (λ p. unplaced_by p old.body.items) c.in-Nothing.is) none_available read.0 read.1
    (ap (λ k. waiting k (view_with envelope new.body.items)) c.time_key.ensures) refl (record { budget = refl; held_bytes = refl; early = refl })
