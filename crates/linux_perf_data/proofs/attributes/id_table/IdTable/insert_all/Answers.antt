use Rattle.std.proofs.Common.{get_or, take, sym, subst}
use Rattle.std.proofs.lemmas.List.{take_more}
use Rattle.linux_perf_data.specs.steps.IdTable.{MapsIds}
use Rattle.linux_perf_data.proofs.IdTableInserts.{puts_more}
use Rattle.linux_perf_data.proofs.attributes.id_table.IdTable.insert_all.Goals as goal

pub ids-preserved : goal.ids-preserved
ids-preserved c =
    let ids = c.args.ids.now in
    let i = c.ids.id-index in
    let more = puts_more c.args.self.now c.ids.self c.insert.new.self (take i ids) (get_or ids i 0) c.args.index c.ids.invariant c.in_ok-insert.ensures in
    subst (λ l. MapsIds c.args.self.now l c.args.index c.insert.new.self) (sym (take_more ids i 0 c.ids-test.true)) more
