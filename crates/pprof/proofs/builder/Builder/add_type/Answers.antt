use Rattle.std.proofs.lemmas.Result.{err_from_is_err_and}
use Rattle.pprof.proofs.Distinct.{absent_row, distinct_rows, eq_type, same_type}
use Rattle.pprof.proofs.builder.Builder.add_type.Goals as goal

pub returns-in_err-index-clause-once : goal.returns-in_err-index-clause-once
returns-in_err-index-clause-once c = distinct_rows eq_type same_type c.insert_full.new.self.keys c.insert_full.ensures.unique

pub returns-clause-once : goal.returns-clause-once
returns-clause-once c = distinct_rows eq_type same_type c.insert_full.new.self.keys c.insert_full.ensures.unique

pub returns-in_err-index-clause-new : goal.returns-in_err-index-clause-new
returns-in_err-index-clause-new c =
    let p = err_from_is_err_and c.from_residual.result c.from_residual.ensures.1 in
    rw p.1 (absent_row eq_type same_type c.args.value_type c.args.self.now.sample_types.keys c.in_err-index.ensures.absent)
