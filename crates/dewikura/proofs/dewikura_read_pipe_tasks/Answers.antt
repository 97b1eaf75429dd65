use Rattle.dewikura.proofs.dewikura_read_pipe_tasks.Goals as goal

pub returns : goal.returns
returns c = (c.pipe_tasks-outcome.result.status, c.code.ensures, (c.pipe_tasks-outcome.result.frames_count, c.pipe_tasks-outcome.ensures))
