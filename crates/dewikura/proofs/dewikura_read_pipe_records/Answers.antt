use Rattle.dewikura.proofs.dewikura_read_pipe_records.Goals as goal

pub returns : goal.returns
returns c = (c.pipe_records-outcome.result.status, c.code.ensures, c.pipe_records-outcome.ensures)
