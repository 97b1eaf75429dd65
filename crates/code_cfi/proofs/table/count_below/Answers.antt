use Rattle.std.proofs.Common.{ltb, rules}
use Rattle.std.proofs.lemmas.List.Sorted.{IsPartitionPoint-from_clause, IsPartitionedBy-ltb}
use Rattle.code_cfi.proofs.table.count_below.Goals as goal

pub returns-clause-point : goal.returns-clause-point
returns-clause-point c =
    IsPartitionPoint-from_clause (λ f. ltb f.start c.args.address) c.args.fdes.now c.partition_point.result c.partition_point.ensures.partitioned
    (IsPartitionedBy-ltb (λ f. f.start) c.args.fdes.now c.args.address c.requires) (λ a r q k. search rules)
