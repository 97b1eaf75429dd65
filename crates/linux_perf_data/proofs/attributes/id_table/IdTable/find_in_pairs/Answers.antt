use Rattle.std.proofs.Common.{◌∙◌, Some, ap, sym}
use Rattle.linux_perf_data.proofs.IdPairLemmas.{pair_there, index_at, insertion_point_none}
use Rattle.linux_perf_data.proofs.attributes.id_table.IdTable.find_in_pairs.Goals as goal

pub returns-then-has_pair : goal.returns-then-has_pair
returns-then-has_pair c =
    let table = c.args.self.now in
    let ps = table.pairs.items in
    let there = c.if-has_pair.ensures in
    let is = pair_there ps c.insertion_point-at.result c.index.result.now there.0 c.index.ensures in
    ap (λ p. Some p.1) is ∙ sym (index_at c.args.id ps c.insertion_point-at.result table.ascending there.0 there.1)

pub returns-else-has_pair : goal.returns-else-has_pair
returns-else-has_pair c =
    let table = c.args.self.now in
    sym (insertion_point_none table.pairs.items c.args.id c.insertion_point-at.result table.ascending c.insertion_point-at.ensures c.if-has_pair.ensures)
