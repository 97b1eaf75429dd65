use Rattle.dewikura.proofs.dewikura_read_file_feature_set.Goals as goal

pub returns : goal.returns
returns c = (c.file_features-outcome.result.status, c.code.ensures, c.file_features-outcome.ensures)
