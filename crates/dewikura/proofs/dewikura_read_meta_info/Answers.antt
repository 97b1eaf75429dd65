use Rattle.dewikura.proofs.dewikura_read_meta_info.Goals as goal

pub returns : goal.returns
returns c = (c.meta_info-outcome.result.status, c.code.ensures, c.meta_info-outcome.ensures)
