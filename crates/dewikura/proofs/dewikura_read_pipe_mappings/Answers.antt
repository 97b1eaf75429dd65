use Rattle.dewikura.proofs.dewikura_read_pipe_mappings.Goals as goal

pub returns : goal.returns
returns c = (c.pipe_mappings-outcome.result.status, c.code.ensures, (c.pipe_mappings-outcome.result.frames_count, c.pipe_mappings-outcome.ensures))
