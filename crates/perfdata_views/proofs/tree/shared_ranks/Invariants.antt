use Rattle.std.proofs.Common.{◌≡◌, take}
use Rattle.perfdata_views.proofs.tree.shared_ranks.Given as goal

abbrev pub invariant-ranks : goal.invariant-ranks
invariant-ranks l = take l.index l.first ≡ take l.index l.second
