use Rattle.std.proofs.Common.{◌≡◌, ◌∙◌, ◌+◌, ◌<◌, ℕ, List, ap, arith, get_or, length, set, subst, sym}
use Rattle.std.proofs.lemmas.List.{length-set}
use Rattle.perfdata_views.proofs.Numbered.{ranking_is, ranks_next}
use Rattle.perfdata_views.proofs.entry_tree.ranking.Goals as goal

pub order-preserved : goal.order-preserved
order-preserved c =
    let order = c.args.order.now in
    let new = set c.order.ranks.items (get_or order c.order.rank 0) c.order.rank in
    let next = ranks_next c.args.count order c.order.ranks.items c.order.rank c.order.invariant.0 c.order.invariant.1 in
    let size : length new ≡ c.args.count = length-set c.order.ranks.items (get_or order c.order.rank 0) c.order.rank ∙ c.order.invariant.0 in
    let is : c.set_rank.new.ranks.items ≡ new = c.set_rank.ensures in
    (ap length is ∙ size, subst (λ (rs : List ℕ). (k : ℕ) → k < c.order.rank + 1 → get_or order k 0 < c.args.count → get_or order (get_or rs (get_or order k 0) 0) 0 ≡ get_or order k 0) (sym is) next)

pub returns : goal.returns
returns c = ranking_is c.args.count c.args.order.now c.order.ranks.items c.order.rank (omega arith) c.requires c.order.invariant.1
