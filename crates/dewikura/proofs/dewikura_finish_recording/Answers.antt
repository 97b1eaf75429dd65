use Rattle.std.proofs.Common.{ap, ◌∙◌}
use Rattle.perfdata_arrays.specs.Status.{status_code}
use Rattle.dewikura.proofs.dewikura_finish_recording.Goals as goal

pub returns-clause-failed : goal.returns-clause-failed
returns-clause-failed c = λ other. c.finish_recording-finished.ensures.failed (λ is. other (c.code.ensures ∙ ap status_code is))
