use Rattle.dewikura.proofs.dewikura_read_pipe_counters.Goals as goal

pub returns : goal.returns
returns c = (c.pipe_counters-outcome.result.status, c.code.ensures, (c.pipe_counters-outcome.result.frames_count, c.pipe_counters-outcome.ensures))
