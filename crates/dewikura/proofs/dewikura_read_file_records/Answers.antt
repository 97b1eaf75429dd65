use Rattle.dewikura.proofs.dewikura_read_file_records.Goals as goal

pub returns : goal.returns
returns c = (c.file_records-outcome.result.status, c.code.ensures, c.file_records-outcome.ensures)
