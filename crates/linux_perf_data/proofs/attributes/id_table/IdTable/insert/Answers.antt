use Rattle.std.proofs.lemmas.Result.{err_from_is_err_and}
use Rattle.linux_perf_data.proofs.IdTableInserts.{late_put, late_same}
use Rattle.linux_perf_data.proofs.attributes.id_table.IdTable.insert.Goals as goal

pub returns : goal.returns
returns c = late_put c.args.self.now.pairs.items c.args.self.now.late_ids c.insert.new.self c.args.id c.args.index c.in_ok-insert.ensures.updates.0

pub returns-in_err-insert : goal.returns-in_err-insert
returns-in_err-insert c =
    let p = err_from_is_err_and c.from_residual.result c.from_residual.ensures.1 in
    rw (p.1) (late_same c.args.self.now.pairs.items c.args.self.now.late_ids c.insert.new.self c.in_err-insert.ensures.err)
