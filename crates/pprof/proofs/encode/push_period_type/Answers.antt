use Rattle.pprof.proofs.Writing.{none}
use Rattle.pprof.proofs.encode.push_period_type.Goals as goal

pub returns-in-None-clause-fields : goal.returns-in-None-clause-fields
returns-in-None-clause-fields c = rw c.in-None.is (none c.args.bytes.now.items)
