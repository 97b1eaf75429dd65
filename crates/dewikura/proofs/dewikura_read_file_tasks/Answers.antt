use Rattle.dewikura.proofs.dewikura_read_file_tasks.Goals as goal

pub returns : goal.returns
returns c = (c.file_tasks-outcome.result.status, c.code.ensures, (c.file_tasks-outcome.result.frames_count, c.file_tasks-outcome.ensures))
