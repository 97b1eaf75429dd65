use Rattle.dewikura.proofs.dewikura_read_file_counters.Goals as goal

pub returns : goal.returns
returns c = (c.file_counters-outcome.result.status, c.code.ensures, (c.file_counters-outcome.result.frames_count, c.file_counters-outcome.ensures))
