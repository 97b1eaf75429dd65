use Rattle.perfdata_arrays.proofs.WrittenLemmas.{writes_none, writes_then}
use Rattle.perfdata_arrays.proofs.decompressing.write_bytes.Goals as goal

pub loop-init : goal.loop-init
loop-init g c = writes_none

pub loop-preserved : goal.loop-preserved
loop-preserved g c = writes_then c.loop.invariant c.push.ensures

pub returns-in_err-count : goal.returns-in_err-count
returns-in_err-count g c = c.loop.invariant
