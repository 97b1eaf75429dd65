use Rattle.std.proofs.lemmas.Result.{on_err_weaker}
use Rattle.pprof.proofs.Distinct.{absent_row, distinct_rows, eq_names, same_names}
use Rattle.pprof.proofs.builder.Builder.function.Goals as goal

pub returns-clause-once : goal.returns-clause-once
returns-clause-once c = distinct_rows eq_names same_names c.row_id.new.rows.keys c.row_id.ensures.once

pub returns-clause-new : goal.returns-clause-new
returns-clause-new c = on_err_weaker c.row_id.result (absent_row eq_names same_names c.args.names c.args.self.now.functions.keys) c.row_id.ensures.new
