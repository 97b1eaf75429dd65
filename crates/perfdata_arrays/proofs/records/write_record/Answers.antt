use Rattle.perfdata_arrays.proofs.OverwriteLemmas.{write_entry-before_start, write_entry-past_capacity, write_entry-in_range}
use Rattle.perfdata_arrays.proofs.records.write_record.Goals as goal

pub returns-then-index-start : goal.returns-then-index-start
returns-then-index-start c = write_entry-before_start c.args.start c.args.index c.args.entry c.args.entries.now c.if-index-start.true

pub returns-then-position-entries : goal.returns-then-position-entries
returns-then-position-entries c = write_entry-in_range c.args.start c.args.index c.args.entry c.args.entries.now c.if-index-start.false c.if-position-entries.true

pub returns-else-position-entries : goal.returns-else-position-entries
returns-else-position-entries c = write_entry-past_capacity c.args.start c.args.index c.args.entry c.args.entries.now c.if-index-start.false c.if-position-entries.false
