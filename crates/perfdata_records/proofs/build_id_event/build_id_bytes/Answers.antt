use Rattle.std.proofs.Common.{arith}
use Rattle.std.proofs.lemmas.Grind.{common_steps}
use Rattle.perfdata_records.proofs.build_id_event.build_id_bytes.Goals as goal

pub returns-then-misc-ne0 : goal.returns-then-misc-ne0
returns-then-misc-ne0 c = grind (arith, common_steps)
