use Rattle.dewikura.proofs.dewikura_read_pipe_feature.Goals as goal

pub returns : goal.returns
returns c = (c.pipe_feature-outcome.result.status, c.code.ensures, c.pipe_feature-outcome.ensures)
