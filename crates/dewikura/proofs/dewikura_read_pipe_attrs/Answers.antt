use Rattle.dewikura.proofs.dewikura_read_pipe_attrs.Goals as goal

pub returns : goal.returns
returns c = (c.pipe_attrs-outcome.result.status, c.code.ensures, c.pipe_attrs-outcome.ensures)
