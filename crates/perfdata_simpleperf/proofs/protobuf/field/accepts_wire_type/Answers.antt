use Rattle.std.proofs.Common.{rules}
use Rattle.perfdata_simpleperf.proofs.protobuf.field.accepts_wire_type.Goals as goal

pub returns-in-Unknown-default : goal.returns-in-Unknown-default
returns-in-Unknown-default c = search rules

pub returns-in_default-2 : goal.returns-in_default-2
returns-in_default-2 c = search rules
