use Rattle.std.proofs.Common.{◌≡◌, ◌++◌, ℕ, length}
use Rattle.perfdata_records.specs.BuildIdEvent.{zero_groups}
use Rattle.perfdata_records.proofs.build_id_event.trim_zero_groups.Given as goal

abbrev pub invariant-groups : goal.invariant-groups
invariant-groups l = (n : ℕ) × (l.fn.bytes ≡ l.rest ++ zero_groups n)

abbrev pub decreases-groups : goal.decreases-groups
decreases-groups l = length l.rest
