use Rattle.std.proofs.Common.{refl, ap, ◌∙◌}
use Rattle.perfdata_order.specs.declared.in_memory.PendingStep.TheVariants.{Record}
use Rattle.perfdata_order.specs.declared.in_memory.InMemoryOrderedRecords.{InMemoryOrderedRecords}
use Rattle.perfdata_order.proofs.Steps.{end_placed, failure_placed, untimed_placed}
use Rattle.perfdata_order.proofs.in_memory.InMemoryOrderedRecords.insert_pending.Goals as goal

pub returns-in-None : goal.returns-in-None
returns-in-None c =
    let was = c.in-Record.is ∙ ap (λ k. Record k c.in-Record.place c.in-Record.record) c.in-None.is in
    untimed_placed c.args.self.now c.end_rounds.new.self c.end_rounds.result c.in-Record.place c.in-Record.record was c.end_rounds.ensures

pub returns-in-End : goal.returns-in-End
returns-in-End c =
    let old = c.args.self.now in
    let new : InMemoryOrderedRecords = record { records = old.records; sorter = c.finish.new.self; round = old.round; pending = old.pending } in
    end_placed old new c.finish.result c.in-End.is c.finish.ensures refl refl refl

pub returns-in-Failure : goal.returns-in-Failure
returns-in-Failure c =
    let old = c.args.self.now in
    let new : InMemoryOrderedRecords = record { records = old.records; sorter = c.finish-in-Failure.new.self; round = old.round; pending = old.pending } in
    failure_placed old new c.finish-in-Failure.result c.in-Failure.field-0 c.in-Failure.is c.finish-in-Failure.ensures refl refl refl
