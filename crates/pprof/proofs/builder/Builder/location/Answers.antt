use Rattle.std.proofs.lemmas.Result.{on_err_weaker}
use Rattle.pprof.specs.Builders.{place_of}
use Rattle.pprof.proofs.Distinct.{absent_value, distinct_values, eq_place, identified, place-Decides}
use Rattle.pprof.proofs.builder.Builder.location.Goals as goal

pub returns-clause-ok : goal.returns-clause-ok
returns-clause-ok c = identified eq_place place_of place-Decides c.row_id.result c.args.self.now.places.keys c.row_id.new.rows.keys c.args.place c.row_id.ensures.ok

pub returns-clause-once : goal.returns-clause-once
returns-clause-once c = distinct_values eq_place place_of place-Decides c.row_id.new.rows.keys c.row_id.ensures.once

pub returns-clause-new : goal.returns-clause-new
returns-clause-new c = on_err_weaker c.row_id.result (absent_value eq_place place_of place-Decides c.args.place c.args.self.now.places.keys) c.row_id.ensures.new
