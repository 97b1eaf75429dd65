use Rattle.dewikura.proofs.dewikura_read_jit_move.Goals as goal

pub returns : goal.returns
returns c = (c.jit_move.result, c.code.ensures, c.jit_move.ensures)
