use Rattle.std.proofs.Common.{◌≡◌, ◌<◌, ℕ, get_or, length}
use Rattle.perfdata_views.proofs.entry_tree.ranking.Given as goal

abbrev pub invariant-order : goal.invariant-order
invariant-order l = (length l.ranks.items ≡ l.count) × ((k : ℕ) → k < l.rank → get_or l.order k 0 < l.count → get_or l.order (get_or l.ranks.items (get_or l.order k 0) 0) 0 ≡ get_or l.order k 0)
