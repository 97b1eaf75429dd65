use Rattle.linux_perf_data.proofs.LayoutUniqueness.{remaining_is_unique}
use Rattle.linux_perf_data.proofs.laws.remaining_records_are_unique.Goals as goal

pub returns : goal.returns
returns c = λ order bytes bound offset round attrs rs ss e f x y. remaining_is_unique order bytes bound offset round attrs rs ss e f x y
