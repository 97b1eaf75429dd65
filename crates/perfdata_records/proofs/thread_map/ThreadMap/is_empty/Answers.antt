use Rattle.std.proofs.Common.{rules}
use Rattle.perfdata_records.proofs.thread_map.ThreadMap.is_empty.Goals as goal

pub returns : goal.returns
returns c = search rules
