use Rattle.std.proofs.Common.{Ok, Err, refl, sym, ap, subst}
use Rattle.std.proofs.lemmas.Result.{err_from_is_err_and}
use Rattle.perfdata_order.specs.declared.streaming.PendingStep.TheVariants.{Nothing}
use Rattle.perfdata_order.specs.StreamingOrder.{unplaced_by, PlacesPending}
use Rattle.perfdata_order.proofs.StreamingCalls.{with_held, round_end_placed}
use Rattle.perfdata_order.proofs.streaming.OrderedRecords.end_round.Goals as goal

pub returns : goal.returns
returns g c =
    let old = c.args.self.now in
    let new = record old { held = c.finish_round.new.self; pending = Nothing; round = c.saturating_add-self.result } in
    round_end_placed g.R.Source.state old new (Ok tt) (ap (λ p. unplaced_by p old.body.items) c.requires) c.in_ok-finish_round.ensures (refl, c.saturating_add-self.ensures) refl (record { budget = refl; held_bytes = refl; early = refl })

pub returns-in_err-finish_round : goal.returns-in_err-finish_round
returns-in_err-finish_round g c =
    let state = g.R.Source.state in
    let old = c.args.self.now in
    let new = with_held old c.finish_round.new.self in
    let p = err_from_is_err_and c.from_residual.result c.from_residual.ensures.1 in
    subst (λ r. PlacesPending state old r new) (sym p.1)
    (round_end_placed state old new (Err p.0) (ap (λ p. unplaced_by p old.body.items) c.requires) c.in_err-finish_round.ensures (refl, refl) refl (record { budget = refl; held_bytes = refl; early = refl }))
