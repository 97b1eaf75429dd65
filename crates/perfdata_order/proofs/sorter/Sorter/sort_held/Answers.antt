use Rattle.std.proofs.Common.{◌∙◌, sym, rules, subst, refl}
use Rattle.std.specs.List.Sorted.{IsPermutation, IsStableByKey}
use Rattle.std.proofs.lemmas.List.Sorted.{answers_always}
use Rattle.perfdata_order.specs.Slots.{value_at}
use Rattle.perfdata_order.specs.Order.{Ascends}
use Rattle.perfdata_order.proofs.Entries.{placed_permutation, have_permutation, sorts_entries}
use Rattle.perfdata_order.proofs.Sorting.{ascends_from_sort}
use Rattle.perfdata_order.proofs.sorter.Sorter.sort_held.Goals as goal

pub returns-in-Ok : goal.returns-in-Ok
returns-in-Ok g c =
    let same = c.make_contiguous-order.ensures.value in
    let sorted = c.sort_by_key.new.self in
    let cmp = g.K.Ord.cmp in
    let old = c.args.self.now in
    let back = c.make_contiguous-order.ensures.writes_back sorted (c.sort_by_key.ensures.len ∙ c.make_contiguous-order.ensures.len) in
    let up = subst (λ zs. Ascends cmp zs) (sym back) (ascends_from_sort g.met.K.Ord.total sorted (c.in-Ok.ensures.sorted (λ e. e.0) (answers_always _ _ _ (λ f a r h q. search rules)))) in
    record {
      sorts = sorts_entries cmp (value_at old.values) old.order.items _ old.placed (record {
        each_once = subst (λ zs. IsPermutation old.order.items zs) (sym back) (subst (λ zs. IsPermutation zs sorted) same c.sort_by_key.ensures.permutation);
        ascends = up;
        stable = subst (λ zs. IsStableByKey (λ e. e.0) cmp old.order.items zs) (sym back)
            (subst (λ zs. IsStableByKey (λ e. e.0) cmp zs sorted) same (c.sort_by_key.ensures.stable (λ e. e.0) (answers_always _ _ _ (λ f a r h q. search rules))));
      });
      ascends = up;
      limit = refl;
      greatest = refl;
      slots = refl;
    }

pub invariant_of-self-clause-placed : goal.invariant_of-self-clause-placed
invariant_of-self-clause-placed g c =
    let same = c.make_contiguous-order.ensures.value in
    let sorted = c.sort_by_key.new.self in
    let old = c.args.self.now in
    let back = c.make_contiguous-order.ensures.writes_back sorted (c.sort_by_key.ensures.len ∙ c.make_contiguous-order.ensures.len) in
    placed_permutation (value_at old.values) old.order.items _ (subst (λ zs. IsPermutation old.order.items zs) (sym back) (subst (λ zs. IsPermutation zs sorted) same c.sort_by_key.ensures.permutation)) old.placed

pub invariant_of-self-clause-have_keys : goal.invariant_of-self-clause-have_keys
invariant_of-self-clause-have_keys g c =
    let same = c.make_contiguous-order.ensures.value in
    let sorted = c.sort_by_key.new.self in
    let old = c.args.self.now in
    let back = c.make_contiguous-order.ensures.writes_back sorted (c.sort_by_key.ensures.len ∙ c.make_contiguous-order.ensures.len) in
    have_permutation (value_at old.values) old.order.items _ (subst (λ zs. IsPermutation old.order.items zs) (sym back) (subst (λ zs. IsPermutation zs sorted) same c.sort_by_key.ensures.permutation)) old.have_keys
