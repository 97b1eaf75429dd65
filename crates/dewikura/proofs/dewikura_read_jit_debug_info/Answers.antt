use Rattle.dewikura.proofs.dewikura_read_jit_debug_info.Goals as goal

pub returns : goal.returns
returns c = (c.jit_debug_info-outcome.result.status, c.code.ensures, c.jit_debug_info-outcome.ensures)
