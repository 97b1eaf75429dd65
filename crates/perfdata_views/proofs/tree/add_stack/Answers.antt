use Rattle.std.proofs.Common.{◌≡◌, ◌+◌, ◌-◌, ◌++◌, ℕ, List, sym, subst, arith, rules, drop, length, replicate, take, vec_len}
use Rattle.perfdata_views.specs.Trees.{names_at}
use Rattle.perfdata_views.specs.steps.Trees.{Grows, IsShared, ended_nodes}
use Rattle.perfdata_views.specs.declared.tree.Node.{Node}
use Rattle.perfdata_views.proofs.Growing.{grows_more, resized}
use Rattle.perfdata_views.proofs.tree.add_stack.Goals as goal

pub returns : goal.returns
returns c = λ stacks ascend below names_is grows.
    let shared = c.shared_ranks-shared.result in
    let firsts = c.args.firsts.now.items in
    let names = names_at stacks c.args.index in
    let share : IsShared c.args.last.now names shared = subst (λ (n : List ℕ). IsShared c.args.last.now n shared) names_is c.shared_ranks-shared.ensures in
    let count = vec_len c.truncate.new.self in
    let count_is : count ≡ length c.truncate.new.self.items = search rules in
    let filled : c.resize.new.self.items ≡ take (length c.args.ranks.now) c.truncate.new.self.items ++ replicate (length c.args.ranks.now - count) c.args.index = c.in_ok-resize.ensures.items in
    let named : c.resize.new.self.items ≡ take (length names) c.truncate.new.self.items ++ replicate (length names - count) c.args.index = subst (λ (n : List ℕ). c.resize.new.self.items ≡ take (length n) c.truncate.new.self.items ++ replicate (length n - count) c.args.index) names_is filled in
    let more = resized firsts c.truncate.new.self.items c.resize.new.self.items shared (length names) count c.args.index c.truncate.ensures.items count_is (omega (arith, share.within.0, grows.length_is)) share.within.1 named in
    let nodes_are : c.end_nodes.new.nodes.items ≡ c.args.nodes.now.items ++ ended_nodes shared (drop shared firsts) c.args.index = search rules in
    let after = grows_more stacks ascend c.args.index c.args.last.now firsts c.args.nodes.now.items grows below shared share c.resize.new.self.items more.0 more.1 more.2 in
    let ranks = subst (λ (n : List ℕ). Grows stacks (c.args.index + 1) n c.resize.new.self.items (c.args.nodes.now.items ++ ended_nodes shared (drop shared firsts) c.args.index)) (sym names_is) after in
    subst (λ (ns : List Node). Grows stacks (c.args.index + 1) c.args.ranks.now c.resize.new.self.items ns) (sym nodes_are) ranks
