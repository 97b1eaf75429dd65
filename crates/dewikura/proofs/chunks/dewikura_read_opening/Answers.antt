use Rattle.dewikura.proofs.chunks.dewikura_read_opening.Goals as goal

pub returns : goal.returns
returns c = (c.read_opening.result, c.code.ensures, c.read_opening.ensures)
