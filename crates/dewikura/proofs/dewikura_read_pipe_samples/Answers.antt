use Rattle.dewikura.proofs.dewikura_read_pipe_samples.Goals as goal

pub returns : goal.returns
returns c = (c.pipe_samples-outcome.result.status, c.code.ensures, c.pipe_samples-outcome.ensures)
