use Rattle.std.proofs.Common.{◌∷◌, [], length}
use Rattle.perfdata_simpleperf.specs.Protobuf.Groups.{GroupItems}
use Rattle.perfdata_simpleperf.proofs.protobuf.groups.skip_group.Given as goal

abbrev pub invariant-items : goal.invariant-items
invariant-items l = GroupItems (l.number ∷ []) l.bytes l.open_groups.items l.rest

abbrev pub decreases-items : goal.decreases-items
decreases-items l = length l.rest
