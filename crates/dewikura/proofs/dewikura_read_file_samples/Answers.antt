use Rattle.dewikura.proofs.dewikura_read_file_samples.Goals as goal

pub returns : goal.returns
returns c = (c.file_samples-outcome.result.status, c.code.ensures, c.file_samples-outcome.ensures)
