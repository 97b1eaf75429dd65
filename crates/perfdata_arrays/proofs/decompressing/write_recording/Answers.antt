use Rattle.perfdata_arrays.proofs.EndLemmas.{plain_by_end}
use Rattle.perfdata_arrays.proofs.decompressing.write_recording.Goals as goal

pub returns-in-Ok-clause-plain : goal.returns-in-Ok-clause-plain
returns-in-Ok-clause-plain c = plain_by_end c.args.bytes.now c.args.array.now c.write_ended.result c.write_ended.new.array c.in-Ok.status c.args.recording c.in-Ok.ensures c.write_ended.ensures.plain
