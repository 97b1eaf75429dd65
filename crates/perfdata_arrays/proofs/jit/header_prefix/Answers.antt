use Rattle.perfdata_arrays.proofs.JitLemmas.{take-min}
use Rattle.perfdata_arrays.proofs.jit.header_prefix.Goals as goal

pub returns : goal.returns
returns c = take-min c.min.result 4096 c.args.bytes.now c.min.ensures
