use Rattle.std.proofs.Common.{ltb, rules}
use Rattle.std.proofs.lemmas.List.Sorted.{IsPartitionPoint-from_clause, IsPartitionedBy-ltb}
use Rattle.code_cfi.proofs.UniqueFdes.{rising_by}
use Rattle.code_cfi.proofs.table.count_cies_below.Goals as goal

pub returns-clause-point : goal.returns-clause-point
returns-clause-point c =
    IsPartitionPoint-from_clause (λ d. ltb d.offset c.args.offset) c.args.cies.now c.partition_point.result c.partition_point.ensures.partitioned
    (IsPartitionedBy-ltb (λ d. d.offset) c.args.cies.now c.args.offset (rising_by c.args.cies.now c.requires)) (λ a r q k. search rules)
