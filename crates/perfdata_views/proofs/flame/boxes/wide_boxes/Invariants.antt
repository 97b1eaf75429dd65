use Rattle.std.proofs.Common.{◌≡◌, filter, not, take}
use Rattle.perfdata_views.specs.FlameBoxes.{is_narrow}
use Rattle.perfdata_views.proofs.flame.boxes.wide_boxes.Given as goal

abbrev pub invariant-boxes : goal.invariant-boxes
invariant-boxes l = l.wide.items ≡ filter (λ b. not (is_narrow l.total b)) (take l.flame_box-index l.boxes)
