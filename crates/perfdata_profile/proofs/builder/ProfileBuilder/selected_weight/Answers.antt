use Rattle.std.proofs.Common.{false, refl}
use Rattle.perfdata_profile.proofs.builder.ProfileBuilder.selected_weight.Goals as goal

pub returns-else-selects : goal.returns-else-selects
returns-else-selects g c = rw c.in-Sample.is (λ before follows. record { is_selected = false; selects = rw c.if-selects.false at (c.selects.ensures before follows); is_left = refl })
