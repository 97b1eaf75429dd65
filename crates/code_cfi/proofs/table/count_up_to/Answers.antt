use Rattle.std.proofs.Common.{leb, rules}
use Rattle.std.proofs.lemmas.List.Sorted.{IsPartitionPoint-from_clause, IsPartitionedBy-leb}
use Rattle.code_cfi.proofs.table.count_up_to.Goals as goal

pub returns-clause-point : goal.returns-clause-point
returns-clause-point c =
    IsPartitionPoint-from_clause (λ f. leb f.start c.args.address) c.args.fdes.now c.partition_point.result c.partition_point.ensures.partitioned
    (IsPartitionedBy-leb (λ f. f.start) c.args.fdes.now c.args.address c.requires) (λ a r q k. search rules)
