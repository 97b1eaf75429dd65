use Rattle.std.proofs.Common.{◌≡◌, ◌∙◌, ◌-◌, ◌<◌, ◌≤◌, ◌++◌, ◌∷◌, [], ℕ, List, sym, ap, append_assoc, arith, drop, get_or, length}
use Rattle.std.proofs.lemmas.List.{append-nil, drop_all}
use Rattle.perfdata_views.specs.steps.Trees.{ended_nodes}
use Rattle.perfdata_views.specs.declared.tree.Node.{Node}
use Rattle.perfdata_views.proofs.Growing.{ended_more}
use Rattle.perfdata_views.proofs.tree.end_nodes.Goals as goal

pub depths-init : goal.depths-init
depths-init c =
    let none = drop_all (length c.args.firsts.now) c.args.firsts.now (omega arith) in
    (c.requires, sym (ap (λ (fs : List ℕ). c.args.nodes.now.items ++ ended_nodes (length c.args.firsts.now) fs c.args.end) none ∙ append-nil c.args.nodes.now.items))

pub depths-preserved : goal.depths-preserved
depths-preserved c =
    let positive : 0 < c.depths.depth = omega arith in
    let within : c.depths.depth ≤ length c.args.firsts.now = omega arith in
    let more = ended_more c.args.firsts.now c.depths.depth c.args.end positive within in
    let node : Node = record { depth = c.depths.depth - 1; first = get_or c.args.firsts.now (c.depths.depth - 1) 0; end = c.args.end } in
    let pushed = ap (λ (ns : List Node). ns ++ node ∷ []) c.depths.invariant.1 in
    let joined = append_assoc c.args.nodes.now.items (ended_nodes c.depths.depth (drop c.depths.depth c.args.firsts.now) c.args.end) (node ∷ []) in
    (omega arith, c.in_ok-push.ensures.items ∙ pushed ∙ joined ∙ ap (λ (ns : List Node). c.args.nodes.now.items ++ ns) (sym more))

pub returns : goal.returns
returns c =
    let here : c.depths.depth ≡ c.args.from = omega arith in
    c.depths.invariant.1 ∙ ap (λ (d : ℕ). c.args.nodes.now.items ++ ended_nodes d (drop d c.args.firsts.now) c.args.end) here
