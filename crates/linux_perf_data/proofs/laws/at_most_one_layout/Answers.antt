use Rattle.linux_perf_data.proofs.LayoutUniqueness.{layout_is_unique}
use Rattle.linux_perf_data.proofs.laws.at_most_one_layout.Goals as goal

pub returns : goal.returns
returns c = λ order bytes bound offset attrs ps qs e f l m. layout_is_unique order ps qs bytes bound offset attrs e f l m
