use Rattle.std.proofs.Common.{Some, Ok, refl, sym, subst}
use Rattle.perfdata_order.specs.steps.StreamingOrder.{EndsRoundsBefore, ReleasesEarly}
use Rattle.perfdata_order.proofs.StreamingCalls.{places_none, places_kept, rounds_placed, pending_admitted, available_made}
use Rattle.perfdata_order.proofs.streaming.OrderedRecords.admit_pending.Goals as goal

pub returns-in-Err : goal.returns-in-Err
returns-in-Err g c = λ key h was round size.
    let old = c.args.self.now in places_kept g.R.Source.state old old c.end_rounds.new.self (places_none g.R.Source.state old old refl) c.in-Err.ensures

pub returns-then-has_more-2 : goal.returns-then-has_more-2
returns-then-has_more-2 g c = λ key h was round size.
    let old = c.args.self.now in
    let ended = c.end_rounds.new.self in
    available_made g.R.Source.state old ended key h was (subst (λ n. EndsRoundsBefore old n (Ok tt) ended) (sym round) c.in-Ok.ensures) c.if-has_more-2.ensures

pub returns-in-Err-release_early : goal.returns-in-Err-release_early
returns-in-Err-release_early g c = λ key h was round size.
    let old = c.args.self.now in
    let ended = c.end_rounds.new.self in
    let placed = rounds_placed g.R.Source.state old ended (Some key) h was (subst (λ n. EndsRoundsBefore old n (Ok tt) ended) (sym round) c.in-Ok.ensures) in
    places_kept g.R.Source.state old ended c.release_early.new.self placed.places c.in-Err-release_early.ensures

pub returns : goal.returns
returns g c = λ key h was round size.
    let old = c.args.self.now in
    let ended = c.end_rounds.new.self in
    let released = c.release_early.new.self in
    pending_admitted g.R.Source.state old ended released key h c.has_more-3.result was (subst (λ n. EndsRoundsBefore old n (Ok tt) ended) (sym round) c.in-Ok.ensures)
    (subst (λ n. ReleasesEarly ended n (Ok tt) released) (sym size) c.in-Ok-release_early.ensures) c.has_more-3.ensures
