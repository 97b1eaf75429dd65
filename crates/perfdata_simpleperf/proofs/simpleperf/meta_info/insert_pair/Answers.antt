use Rattle.std.proofs.lemmas.Result.{err_from_is_err_and}
use Rattle.perfdata_simpleperf.proofs.MetaPairs.{pair_inserted}
use Rattle.perfdata_simpleperf.proofs.simpleperf.meta_info.insert_pair.Goals as goal

pub returns : goal.returns
returns c = (
  (c.in-Ok-Ok.ensures.cases.1, c.in-Ok-Ok.ensures'.cases.1),
  pair_inserted c.args.map.now c.insert.new.self c.in-Ok-Ok.key c.in-Ok-Ok.value (c.args.key.now, c.args.value.now) c.in-Ok-Ok.ensures.cases.0 c.in-Ok-Ok.ensures'.cases.0 c.in_ok-insert.ensures.updates,
)

pub returns-in_err-insert : goal.returns-in_err-insert
returns-in_err-insert c =
    let p = err_from_is_err_and c.from_residual.result c.from_residual.ensures.1 in
    rw (p.1, p.2) (c.in-Ok-Ok.ensures.cases.1, c.in-Ok-Ok.ensures'.cases.1)
