use Rattle.perfdata_simpleperf.proofs.MetaPairs.{segment_ends, segment_last}
use Rattle.perfdata_simpleperf.proofs.simpleperf.meta_info.split_first_segment.Goals as goal

pub returns-in-Some : goal.returns-in-Some
returns-in-Some c = segment_ends c.args.bytes.now c.in-Some.segment.now c.in-Some.rest.now c.in-Some.ensures

pub returns-in-None : goal.returns-in-None
returns-in-None c = segment_last c.args.bytes.now c.in-None.ensures
