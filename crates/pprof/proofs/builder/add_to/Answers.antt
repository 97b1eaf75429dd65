use Rattle.std.proofs.Common.{◌∙◌, ap, slice_set}
use Rattle.pprof.proofs.Counting.{raised_past, raised_set}
use Rattle.pprof.proofs.builder.add_to.Goals as goal

pub returns-in-Some : goal.returns-in-Some
returns-in-Some c =
    let values = c.args.values.now.items in
    let value = c.in-Some.value.now in
    ap (λ n. slice_set values c.args.index n) c.saturating_add.ensures ∙ raised_set values c.args.index c.args.number value c.in-Some.ensures.item.3.0 c.in-Some.ensures.value

pub returns-in_default : goal.returns-in_default
returns-in_default c = raised_past c.args.values.now.items c.args.index c.args.number c.in_default.ensures.item.3
