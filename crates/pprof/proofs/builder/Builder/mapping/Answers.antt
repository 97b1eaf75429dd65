use Rattle.std.proofs.lemmas.Result.{on_err_weaker}
use Rattle.pprof.proofs.Distinct.{absent_row, distinct_rows, eq_file, same_file}
use Rattle.pprof.proofs.builder.Builder.mapping.Goals as goal

pub returns-clause-once : goal.returns-clause-once
returns-clause-once c = distinct_rows eq_file same_file c.row_id.new.rows.keys c.row_id.ensures.once

pub returns-clause-new : goal.returns-clause-new
returns-clause-new c = on_err_weaker c.row_id.result (absent_row eq_file same_file c.args.file c.args.self.now.mappings.keys) c.row_id.ensures.new
