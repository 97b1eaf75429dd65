use Rattle.std.proofs.Common.{Contains, List, ℕ, arith, length, subst, sym}
use Rattle.perfdata_profile.specs.Names.{names_of}
use Rattle.perfdata_profile.specs.Profiles.{lists_of}
use Rattle.perfdata_profile.specs.Samples.{AreRelated}
use Rattle.perfdata_profile.specs.SampleSums.{entries_of}
use Rattle.perfdata_views.specs.Entries.{entries_in}
use Rattle.perfdata_views.specs.EntryTrees.{IsRanking}
use Rattle.perfdata_views.specs.steps.Numbering.{IsReranked}
use Rattle.perfdata_views.specs.declared.tree.RankedStack.{RankedStack}
use Rattle.perfdata_views.proofs.EntryStacks.{entries_have_tree}
use Rattle.perfdata_views.proofs.LineSums.{valued_weights}
use Rattle.perfdata_views.proofs.Nesting.{boxes_nest}
use Rattle.perfdata_views.proofs.Numbered.{numbered_sum, ranked_entries, reranked_sum}
use Rattle.perfdata_views.proofs.entry_tree.entry_tree.Goals as goal

pub ranking-requires : goal.ranking-requires
ranking-requires c = λ number below. subst (λ (o : List ℕ). Contains o number) (sym c.as_slice.ensures.value) (c.in_ok-order.ensures number (omega (arith, below, c.len.ensures)))

pub tree-requires : goal.tree-requires
tree-requires c =
    let texts = names_of c.numbered_stacks.new.texts in
    let entries = entries_in c.args.profile.now in
    let reranked = subst (λ (ss : List RankedStack). AreRelated (IsReranked c.as_slice-2.result.now) ss c.in_ok-ranked.ranked.items) c.as_slice-3.ensures.value c.in_ok-ranked.ensures in
    let sum = reranked_sum c.as_slice-2.result.now c.in_ok-numbered.numbered.items c.in_ok-ranked.ranked.items reranked in
    let numbered = numbered_sum texts entries c.in_ok-numbered.numbered.items c.in_ok-numbered.ensures in
    let valued = valued_weights (lists_of c.args.profile.now.tables) (entries_of c.args.profile.now.sums) in
    let total = c.total-total.type_inv in
    omega (arith, sum, numbered, valued, c.total-total.ensures.weights)

pub returns-clause-entries : goal.returns-clause-entries
returns-clause-entries c =
    let texts = names_of c.numbered_stacks.new.texts in
    let entries = entries_in c.args.profile.now in
    let order = c.in_ok-order.order.items in
    let ranks = c.in_ok-ranks.ranks.items in
    let counted : IsRanking (length texts) c.as_slice.result.now ranks = subst (λ (n : ℕ). IsRanking n c.as_slice.result.now ranks) c.len.ensures c.in_ok-ranks.ensures in
    let ranking : IsRanking (length texts) order ranks = subst (λ (o : List ℕ). IsRanking (length texts) o ranks) c.as_slice.ensures.value counted in
    let by_ranks : AreRelated (IsReranked ranks) c.as_slice-3.result.now c.in_ok-ranked.ranked.items = subst (λ (rs : List ℕ). AreRelated (IsReranked rs) c.as_slice-3.result.now c.in_ok-ranked.ranked.items) c.as_slice-2.ensures.value c.in_ok-ranked.ensures in
    let reranked : AreRelated (IsReranked ranks) c.in_ok-numbered.numbered.items c.in_ok-ranked.ranked.items = subst (λ (ss : List RankedStack). AreRelated (IsReranked ranks) ss c.in_ok-ranked.ranked.items) c.as_slice-3.ensures.value by_ranks in
    let are = ranked_entries texts ranks entries c.in_ok-numbered.numbered.items c.in_ok-ranked.ranked.items c.in_ok-numbered.ensures reranked in
    entries_have_tree texts order ranks entries c.in_ok-ranked.ranked.items c.in_ok-tree.field-0 c.numbered_stacks.new.texts.once ranking are c.in_ok-tree.ensures

pub returns-clause-nested : goal.returns-clause-nested
returns-clause-nested c = boxes_nest c.in_ok-ranked.ranked.items c.in_ok-tree.field-0 c.in_ok-tree.ensures
