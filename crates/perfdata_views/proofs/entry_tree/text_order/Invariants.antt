use Rattle.std.proofs.Common.{◌≡◌, ◌<◌, ℕ, get_or, length}
use Rattle.perfdata_views.proofs.entry_tree.text_order.Given as goal

abbrev pub invariant-numbers : goal.invariant-numbers
invariant-numbers l = (length l.order.items ≡ l.number) × ((k : ℕ) → k < l.number → get_or l.order.items k 0 ≡ k)
