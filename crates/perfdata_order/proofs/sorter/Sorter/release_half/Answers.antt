use Rattle.std.proofs.Common.{◌+◌, ◌*◌, ◌≤◌, length, arith}
use Rattle.std.proofs.lemmas.Grind.{div_ceil_times}
use Rattle.std.proofs.lemmas.List.Sorted.{length_permutation}
use Rattle.perfdata_order.specs.Slots.{value_at}
use Rattle.perfdata_order.specs.Sorter.{held_of}
use Rattle.perfdata_order.proofs.Entries.{half_left}
use Rattle.perfdata_order.proofs.sorter.Sorter.release_half.Goals as goal

pub returns : goal.returns
returns g c =
    let count = c.div_ceil-self.result in
    let sorted = c.sort_held.new.self in
    let order = sorted.order in
    let bounds = div_ceil_times c.len.result 2 (omega arith) in
    let ceil = c.div_ceil-self.ensures in
    let len = c.len.ensures in
    let all = order.ok.0 in
    let half : (length order.items ≤ 2 * count) × (2 * count ≤ length order.items + 1) = (omega (arith, bounds.0, ceil, len, all), omega (arith, bounds.1, ceil, len, all)) in
    record {
      sorts = c.in_ok-sort_held.ensures.sorts;
      half = half_left (value_at sorted.values) sorted.order.items count (held_of c.args.self.now) sorted.placed (length_permutation _ _ c.in_ok-sort_held.ensures.sorts.each_once) half;
      limit = c.in_ok-sort_held.ensures.limit;
      greatest = c.in_ok-sort_held.ensures.greatest;
      slots = c.in_ok-sort_held.ensures.slots;
    }
