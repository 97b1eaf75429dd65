use Rattle.std.proofs.Common.{inr}
use Rattle.std.proofs.lemmas.Result.{err_from_is_err_and}
use Rattle.perfdata_sources.specs.Raw.{bytes_of}
use Rattle.perfdata_events.proofs.read_values.ReadRecord.parse.Goals as goal

pub returns-in_err-values-clause-decodes : goal.returns-in_err-values-clause-decodes
returns-in_err-values-clause-decodes c =
    let p = err_from_is_err_and c.from_residual-in_err-values.result c.from_residual-in_err-values.ensures.1 in
    rw (p.1, p.2) (inr record { value = c.in_ok-task.task; middle = bytes_of c.read_task.new.fields; starts = c.in_ok-task.ensures.decodes; error = c.in_err-values.ensures.decodes })
