use Rattle.perfdata_arrays.proofs.WrittenLemmas.{writes_none, writes_then}
use Rattle.perfdata_arrays.proofs.finishing.write_event_types.Goals as goal

pub loop-index-init : goal.loop-index-init
loop-index-init c = writes_none

pub loop-index-preserved : goal.loop-index-preserved
loop-index-preserved c = writes_then c.loop-index.invariant (writes_then c.push.ensures (writes_then c.push-in-loop-index.ensures c.push-in-loop-index-2.ensures))
