use Rattle.std.proofs.Common.{Some, refl}
use Rattle.perfdata_order.specs.declared.in_memory.PendingStep.TheVariants.{Nothing}
use Rattle.perfdata_order.specs.declared.in_memory.InMemoryOrderedRecords.{InMemoryOrderedRecords}
use Rattle.perfdata_order.proofs.Steps.{places_none, places_kept, rounds_placed, record_placed}
use Rattle.perfdata_order.proofs.in_memory.InMemoryOrderedRecords.insert_record.Goals as goal

pub returns-in-Err : goal.returns-in-Err
returns-in-Err c = places_kept c.args.self.now c.args.self.now c.end_rounds.new.self (places_none c.args.self.now c.args.self.now refl) c.in-Err.ensures

pub returns-in-Ok-insert_unordered : goal.returns-in-Ok-insert_unordered
returns-in-Ok-insert_unordered c =
    let ended = c.end_rounds.new.self in
    let new : InMemoryOrderedRecords = record { records = ended.records; sorter = c.insert_unordered.new.self; round = ended.round; pending = Nothing } in
    let placed = rounds_placed c.args.self.now ended (Some c.args.key) c.args.place c.args.record c.requires c.in-Ok.ensures in
    record_placed c.args.self.now ended new c.args.key c.args.place c.args.record c.requires placed c.in-Ok-insert_unordered.ensures refl refl refl

pub returns-in-Err-insert_unordered : goal.returns-in-Err-insert_unordered
returns-in-Err-insert_unordered c =
    let ended = c.end_rounds.new.self in
    let new : InMemoryOrderedRecords = record { records = ended.records; sorter = c.insert_unordered.new.self; round = ended.round; pending = ended.pending } in
    let placed = rounds_placed c.args.self.now ended (Some c.args.key) c.args.place c.args.record c.requires c.in-Ok.ensures in
    places_kept c.args.self.now ended new placed.places (record { unchanged = c.in-Err-insert_unordered.ensures.1; pending = refl; same_records = refl; round = refl })
