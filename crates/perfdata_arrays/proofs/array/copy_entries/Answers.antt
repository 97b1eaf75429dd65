use Rattle.perfdata_arrays.proofs.OverwriteLemmas.{with_entries_at-past_end}
use Rattle.perfdata_arrays.proofs.array.copy_entries.Goals as goal

pub returns-else-offset-array : goal.returns-else-offset-array
returns-else-offset-array g c = with_entries_at-past_end c.args.offset c.args.entries.now c.args.array.now c.if-offset-array.false
