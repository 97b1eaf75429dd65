use Rattle.dewikura.proofs.dewikura_read_pipe_feature_set.Goals as goal

pub returns : goal.returns
returns c = (c.pipe_features-outcome.result.status, c.code.ensures, c.pipe_features-outcome.ensures)
