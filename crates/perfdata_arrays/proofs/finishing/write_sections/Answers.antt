use Rattle.perfdata_arrays.proofs.WrittenLemmas.{writes_none, writes_then}
use Rattle.perfdata_arrays.proofs.finishing.write_sections.Goals as goal

pub loop-section-init : goal.loop-section-init
loop-section-init c = writes_none

pub loop-section-preserved : goal.loop-section-preserved
loop-section-preserved c = writes_then c.loop-section.invariant c.push.ensures
