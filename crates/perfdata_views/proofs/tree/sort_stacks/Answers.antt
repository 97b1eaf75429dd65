use Rattle.std.proofs.Common.{rules}
use Rattle.std.specs.Cmp.Lexicographic.{slice_cmp}
use Rattle.std.specs.Ordering.{is_lt, nat_cmp}
use Rattle.std.proofs.lemmas.Cmp.{nat_list_cmp_total}
use Rattle.std.proofs.lemmas.List.Sorted.{answers_always, ranks_by}
use Rattle.perfdata_views.specs.declared.tree.RankedStack.{RankedStack}
use Rattle.perfdata_views.proofs.Ascending.{ascend}
use Rattle.perfdata_views.proofs.tree.sort_stacks.Goals as goal

pub returns-clause-ok : goal.returns-clause-ok
returns-clause-ok c = ascend c.sort_by.new.self.items (c.in_ok-sort_by.ensures.sorted (λ (a b : RankedStack). is_lt (slice_cmp nat_cmp a.ranks.items b.ranks.items)) (ranks_by nat_list_cmp_total (λ (s : RankedStack). s.ranks.items)) (answers_always _ _ _ (λ f a r f' k. search rules)))
