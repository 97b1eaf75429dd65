use Rattle.perfdata_views.proofs.Nesting.{boxes_nest}
use Rattle.perfdata_views.proofs.laws.boxes.Goals as goal

pub returns : goal.returns
returns c = boxes_nest
