use Rattle.std.proofs.Common.{rules}
use Rattle.std.proofs.lemmas.Result.{err_from_is_err_and}
use Rattle.perfdata_simpleperf.specs.EventTypeInfo.{IsNumber, line_fields}
use Rattle.perfdata_simpleperf.proofs.EventLines.{event_described}
use Rattle.perfdata_simpleperf.proofs.simpleperf.event_types.parse_event.Goals as goal

pub returns-in_err-name-clause-memory : goal.returns-in_err-name-clause-memory
returns-in_err-name-clause-memory c =
    let p = err_from_is_err_and c.from_residual.result c.from_residual.ensures.1 in
    let first : IsNumber c.in-Some.type_.now c.in-Ok-Ok.type_ = search rules in
    let second : IsNumber c.in-Some.config.now c.in-Ok-Ok.config = search rules in
    rw p.1 (event_described (line_fields c.args.line.now) c.in-Some.name c.in-Some.type_ c.in-Some.config c.in-Ok-Ok.type_ c.in-Ok-Ok.config c.in-Some.ensures first second)
