use Rattle.dewikura.proofs.dewikura_read_jit_records.Goals as goal

pub returns : goal.returns
returns c = (c.jit_records-outcome.result.status, c.code.ensures, c.jit_records-outcome.ensures)
