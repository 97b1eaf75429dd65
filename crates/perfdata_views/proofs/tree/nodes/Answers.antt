use Rattle.std.proofs.Common.{◌≡◌, ◌∙◌, ◌<◌, ◌++◌, ℕ, List, sym, ap, subst, arith, rules, drop, length}
use Rattle.std.proofs.lemmas.List.{get_or-map, length-map}
use Rattle.perfdata_views.specs.Trees.{names_at, names_of}
use Rattle.perfdata_views.specs.steps.Trees.{Grows, ended_nodes}
use Rattle.perfdata_views.specs.declared.tree.RankedStack.{RankedStack}
use Rattle.perfdata_views.proofs.Growing.{grown}
use Rattle.perfdata_views.proofs.tree.nodes.Goals as goal

pub stacks-preserved : goal.stacks-preserved
stacks-preserved c =
    let ranks_of : RankedStack → List ℕ = λ stack. stack.ranks.items in
    let count = length-map c.args.stacks.now ranks_of in
    let below : c.stacks.index < length c.args.stacks.now = omega arith in
    let names_is : c.as_slice-ranks.result.now ≡ names_at (names_of c.args.stacks.now) c.stacks.index =
    c.as_slice-ranks.ensures.value ∙ ap ranks_of c.index-stacks-index.is ∙ sym (get_or-map ranks_of c.args.stacks.now c.stacks.index c.index-stacks-index.result _ below) in
    c.in_ok-add_stack.ensures (names_of c.args.stacks.now) c.requires (omega (arith, count)) names_is c.stacks.invariant

pub returns : goal.returns
returns c =
    let ranks_of : RankedStack → List ℕ = λ stack. stack.ranks.items in
    let count = length-map c.args.stacks.now ranks_of in
    let all : c.stacks.index ≡ length (names_of c.args.stacks.now) = omega (arith, count) in
    let is = subst (λ (n : ℕ). Grows (names_of c.args.stacks.now) n c.stacks.last.now c.stacks.firsts.items c.stacks.nodes.items) all c.stacks.invariant in
    let ended : c.end_nodes.new.nodes.items ≡ c.stacks.nodes.items ++ ended_nodes 0 (drop 0 c.stacks.firsts.items) (length c.args.stacks.now) = search rules in
    let nodes = ended ∙ ap (λ (n : ℕ). c.stacks.nodes.items ++ ended_nodes 0 (drop 0 c.stacks.firsts.items) n) (sym count) in
    grown (names_of c.args.stacks.now) c.stacks.last.now c.stacks.firsts.items c.stacks.nodes.items c.end_nodes.new.nodes.items is nodes
