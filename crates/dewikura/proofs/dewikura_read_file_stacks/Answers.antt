use Rattle.dewikura.proofs.dewikura_read_file_stacks.Goals as goal

pub returns : goal.returns
returns c = (c.file_stacks-outcome.result.status, c.code.ensures, c.file_stacks-outcome.ensures)
