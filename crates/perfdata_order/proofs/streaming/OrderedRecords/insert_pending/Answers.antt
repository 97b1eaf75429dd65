use Rattle.std.proofs.Common.{refl, ap, ◌∙◌}
use Rattle.perfdata_order.specs.HeldRecord.{view_with}
use Rattle.perfdata_order.specs.StreamingOrder.{unplaced_by}
use Rattle.perfdata_order.specs.StreamingOrder.Unplaced.{waiting, ending, failing, failed}
use Rattle.perfdata_order.proofs.StreamingCalls.{with_held, last_placed, untimed_placed}
use Rattle.perfdata_order.proofs.streaming.OrderedRecords.insert_pending.Goals as goal

pub returns-in-None : goal.returns-in-None
returns-in-None g c =
    let old = c.args.self.now in
    let view = view_with c.in-Record.envelope old.body.items in
    let was = ap (λ p. unplaced_by p old.body.items) c.in-Record.is ∙ ap (λ k. waiting k view) c.in-None.is in
    untimed_placed g.R.Source.state old c.end_rounds.new.self c.end_rounds.result view was c.end_rounds.ensures

pub returns-in-End : goal.returns-in-End
returns-in-End g c =
    let old = c.args.self.now in
    last_placed g.R.Source.state old (with_held old c.finish.new.self) c.finish.result ending tt (ap (λ p. unplaced_by p old.body.items) c.in-End.is) c.finish.ensures refl refl refl (record { budget = refl; held_bytes = refl; early = refl })

pub returns-in-Failure : goal.returns-in-Failure
returns-in-Failure g c =
    let old = c.args.self.now in
    last_placed g.R.Source.state old (with_held old c.finish-in-Failure.new.self) c.finish-in-Failure.result (failing c.in-Failure.field-0) tt (ap (λ p. unplaced_by p old.body.items) c.in-Failure.is) c.finish-in-Failure.ensures refl refl refl (record { budget = refl; held_bytes = refl; early = refl })

pub returns-in-Failed : goal.returns-in-Failed
returns-in-Failed g c =
    let old = c.args.self.now in
    last_placed g.R.Source.state old (with_held old c.finish-in-Failed.new.self) c.finish-in-Failed.result failed tt (ap (λ p. unplaced_by p old.body.items) c.in-Failed.is) c.finish-in-Failed.ensures refl refl refl (record { budget = refl; held_bytes = refl; early = refl })
