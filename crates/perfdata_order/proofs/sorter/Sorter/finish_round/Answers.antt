use Rattle.std.proofs.Common.{◌≡◌, subst, true, false, All, take, drop}
use Rattle.perfdata_order.specs.Slots.{value_at}
use Rattle.perfdata_order.specs.Order.{is_within}
use Rattle.perfdata_order.specs.Entries.{entries_by}
use Rattle.perfdata_order.proofs.Entries.{all_entries}
use Rattle.perfdata_order.proofs.Sorting.{within_same}
use Rattle.perfdata_order.proofs.sorter.Sorter.finish_round.Goals as goal

pub returns : goal.returns
returns g c =
    let cmp = g.K.Ord.cmp in
    let sorted = c.sort_held.new.self in
    let done = c.in_ok-sort_held.ensures in
    let n = c.count_within_limit-self.result in
    let count = c.count_within_limit-self.ensures in
    record {
      sorts = done.sorts;
      available = subst (λ l. All (λ e. is_within cmp l e ≡ true) (entries_by (value_at sorted.values) (take n sorted.order.items))) done.limit
          (all_entries (value_at sorted.values) (λ e. is_within cmp sorted.limit e ≡ true) (λ e. is_within cmp sorted.limit e ≡ true) (λ k slot v h. within_same cmp sorted.limit k slot v true h) (take n sorted.order.items) count.within);
      pending = subst (λ l. All (λ e. is_within cmp l e ≡ false) (entries_by (value_at sorted.values) (drop n sorted.order.items))) done.limit
          (all_entries (value_at sorted.values) (λ e. is_within cmp sorted.limit e ≡ false) (λ e. is_within cmp sorted.limit e ≡ false) (λ k slot v h. within_same cmp sorted.limit k slot v false h) (drop n sorted.order.items) count.beyond);
      limit = done.greatest;
      greatest = done.greatest;
      slots = done.slots;
    }
