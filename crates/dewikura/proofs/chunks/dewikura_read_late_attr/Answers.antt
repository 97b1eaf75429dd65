use Rattle.dewikura.proofs.chunks.dewikura_read_late_attr.Goals as goal

pub returns-clause-failed : goal.returns-clause-failed
returns-clause-failed c = (c.late_attr-outcome.result.status, c.code.ensures, c.late_attr-outcome.ensures.failed)

pub returns-clause-unchanged : goal.returns-clause-unchanged
returns-clause-unchanged c = (c.late_attr-outcome.result.status, c.code.ensures, c.late_attr-outcome.ensures.unchanged_attr)
