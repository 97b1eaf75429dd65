use Rattle.std.proofs.Common.{◌+◌, ◌-◌, ◌∙◌, length, refl, ap}
use Rattle.perfdata_order.proofs.streaming.OrderedRecords.take_sorted.Goals as goal

pub returns-in-Some : goal.returns-in-Some
returns-in-Some g c =
    let taken = c.in-Some.ensures in
    let view = taken.1.1.1 in
    let len = ap length c.body.ensures ∙ ap (λ h. length h.body) view in (
      taken.0,
      (
        taken.1.0,
        record { returned = taken.1.1.0; pending = refl; same_records = refl; round = refl; budget = refl; early = refl; held_bytes = c.saturating_sub-self.ensures ∙ ap (λ n. c.args.self.now.held_bytes - n) (c.held_size-size.ensures ∙ ap (λ n. n + 192) len) },
        view,
      ),
    )
