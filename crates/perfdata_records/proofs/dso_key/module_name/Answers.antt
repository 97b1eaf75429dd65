use Rattle.std.proofs.Common.{rules}
use Rattle.perfdata_records.proofs.dso_key.module_name.Goals as goal

pub returns-then-ends_with : goal.returns-then-ends_with
returns-then-ends_with c = search rules
