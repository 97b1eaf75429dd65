use Rattle.dewikura.proofs.dewikura_read_jit_header.Goals as goal

pub returns : goal.returns
returns c = (c.jit_header.result, c.code.ensures, c.jit_header.ensures)
