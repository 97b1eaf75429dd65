use Rattle.dewikura.proofs.dewikura_read_file_attrs.Goals as goal

pub returns : goal.returns
returns c = (c.file_attrs-outcome.result.status, c.code.ensures, c.file_attrs-outcome.ensures)
