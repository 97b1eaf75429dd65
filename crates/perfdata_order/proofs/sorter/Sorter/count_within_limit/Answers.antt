use Rattle.std.proofs.Common.{◌≡◌, ◌≤◌, rules, true, false, length, Some}
use Rattle.std.proofs.lemmas.List.Sorted.{IsPartitionPoint-from_clause}
use Rattle.perfdata_order.specs.Order.{is_within}
use Rattle.perfdata_order.proofs.Sorting.{within_first, before_point, after_point}
use Rattle.perfdata_order.proofs.sorter.Sorter.count_within_limit.Goals as goal

pub returns-in-Some-clause-within : goal.returns-in-Some-clause-within
returns-in-Some-clause-within g c =
    let entries = c.args.self.now.order.items in
    let within = is_within g.K.Ord.cmp (Some c.in-Some.limit) in
    let first = within_first g.met.K.Ord.total (Some c.in-Some.limit) entries c.requires in
    let fits : c.partition_point.result ≤ length entries = search rules in
    let point = IsPartitionPoint-from_clause within entries c.partition_point.result c.partition_point.ensures.partitioned first (λ a r q k. search rules) in
    rw c.in-Some.is (before_point (λ e. within e ≡ true) (λ e. within e ≡ false) entries c.partition_point.result fits point)

pub returns-in-Some-clause-beyond : goal.returns-in-Some-clause-beyond
returns-in-Some-clause-beyond g c =
    let entries = c.args.self.now.order.items in
    let within = is_within g.K.Ord.cmp (Some c.in-Some.limit) in
    let first = within_first g.met.K.Ord.total (Some c.in-Some.limit) entries c.requires in
    let point = IsPartitionPoint-from_clause within entries c.partition_point.result c.partition_point.ensures.partitioned first (λ a r q k. search rules) in
    rw c.in-Some.is (after_point (λ e. within e ≡ true) (λ e. within e ≡ false) entries c.partition_point.result point)
