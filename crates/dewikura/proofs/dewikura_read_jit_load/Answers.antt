use Rattle.dewikura.proofs.dewikura_read_jit_load.Goals as goal

pub returns : goal.returns
returns c = (c.jit_load.result, c.code.ensures, c.jit_load.ensures)
