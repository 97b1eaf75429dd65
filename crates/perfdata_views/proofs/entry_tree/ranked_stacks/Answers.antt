use Rattle.std.proofs.Common.{◌∙◌, ◌<◌, ap, arith, length, refl}
use Rattle.perfdata_views.specs.steps.Numbering.{ranked_numbers}
use Rattle.perfdata_views.specs.declared.tree.RankedStack.{RankedStack}
use Rattle.perfdata_views.proofs.Numbered.{reranked_all, reranked_next}
use Rattle.perfdata_views.proofs.entry_tree.ranked_stacks.Goals as goal

pub stacks-preserved : goal.stacks-preserved
stacks-preserved c =
    let below : c.stacks.stack-index < length c.args.stacks.now = omega arith in
    let new : RankedStack = record { ranks = c.in_ok-number_ranks.field-0; weight = c.stack-item.result.weight } in
    let ranks = c.in_ok-number_ranks.ensures ∙ ap (ranked_numbers c.args.ranks.now) c.as_slice.ensures.value in
    reranked_next c.args.ranks.now c.args.stacks.now c.stacks.stack-index c.stack-item.result new c.stacks.ranked.items c.push.new.self.items below c.stack-item.is ranks refl c.in_ok-push.ensures.items c.stacks.invariant

pub returns : goal.returns
returns c = reranked_all c.args.ranks.now c.args.stacks.now c.stacks.stack-index c.stacks.ranked.items (omega arith) c.stacks.invariant
