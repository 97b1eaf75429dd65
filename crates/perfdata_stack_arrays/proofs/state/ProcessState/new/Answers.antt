use Rattle.std.proofs.Common.{refl}
use Rattle.perfdata_stack_arrays.proofs.state.ProcessState.new.Goals as goal

pub returns : goal.returns
returns c = record { spaces = c.new.ensures; names = c.new-2.ensures; mappings = refl; text = refl }
