use Rattle.dewikura.proofs.dewikura_read_file_feature.Goals as goal

pub returns : goal.returns
returns c = (c.file_feature-outcome.result.status, c.code.ensures, c.file_feature-outcome.ensures)
