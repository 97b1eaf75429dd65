use Rattle.dewikura.proofs.dewikura_read_jit_unwinding.Goals as goal

pub returns : goal.returns
returns c = (c.jit_unwinding.result, c.code.ensures, c.jit_unwinding.ensures)
