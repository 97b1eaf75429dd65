use Rattle.std.proofs.Common.{sym, ◌∙◌, refl}
use Rattle.perfdata_stack_arrays.proofs.records.Records.new.Goals as goal

pub returns-then-has_times : goal.returns-then-has_times
returns-then-has_times c = rw (sym c.has_times.ensures ∙ c.if-has_times.true) c.new.ensures

pub returns-else-has_times : goal.returns-else-has_times
returns-else-has_times c = rw (sym c.has_times.ensures ∙ c.if-has_times.false) refl
