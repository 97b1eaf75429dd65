use Rattle.std.proofs.Common.{ap, ◌∙◌}
use Rattle.linux_perf_data.specs.Descriptions.{described_attributes}
use Rattle.linux_perf_data.specs.steps.IdPairs.{rank_of_id}
use Rattle.linux_perf_data.proofs.IdPairLemmas.{table_resolves}
use Rattle.linux_perf_data.proofs.IdTableInserts.{none_late}
use Rattle.linux_perf_data.proofs.attributes.id_table.IdTable.new.Goals as goal

pub returns : goal.returns
returns c =
    let last = c.in_ok-pairs-2.ensures in
    let first = table_resolves (described_attributes c.args.attributes.now) c.in_ok-pairs.pairs.items c.sort_pairs.new.pairs.items c.in_ok-pairs-2.pairs.items c.in_ok-pairs.ensures c.sort_pairs.ensures.permutation last.0
    (λ id. last.1 id ∙ ap (rank_of_id id) c.deref.ensures.value) in
    λ id. none_late c.in_ok-pairs-2.pairs.items c.new.result c.new.ensures.empty id ∙ first id
