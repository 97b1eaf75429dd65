use Rattle.linux_perf_data.proofs.WalksAhead.{same_but_lookup}
use Rattle.linux_perf_data.proofs.in_memory.file_walk.FileWalk.take_ahead.Goals as goal

pub returns-clause-same_but_lookup : goal.returns-clause-same_but_lookup
returns-clause-same_but_lookup c = same_but_lookup c.args.records.now c.take.new.lookup _
