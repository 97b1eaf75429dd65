use Rattle.std.proofs.Common.{inr}
use Rattle.perfdata_chunks.proofs.input_errors.pipe_error.Goals as goal

pub returns-in-Ok : goal.returns-in-Ok
returns-in-Ok c = inr (c.in-Ok.reader, c.in-Ok.ensures, c.read_to_end.ensures)
