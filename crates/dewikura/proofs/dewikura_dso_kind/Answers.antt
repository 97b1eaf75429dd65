use Rattle.dewikura.proofs.dewikura_dso_kind.Goals as goal

pub returns : goal.returns
returns c = (c.find_dso_kind.result, c.code.ensures, c.find_dso_kind.ensures)
