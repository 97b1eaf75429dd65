use Rattle.dewikura.proofs.dewikura_read_pipe_stacks.Goals as goal

pub returns : goal.returns
returns c = (c.pipe_stacks-outcome.result.status, c.code.ensures, c.pipe_stacks-outcome.ensures)
