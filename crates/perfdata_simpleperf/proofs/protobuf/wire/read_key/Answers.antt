use Rattle.std.proofs.Common.{rules}
use Rattle.perfdata_simpleperf.proofs.protobuf.wire.read_key.Goals as goal

pub returns-in_default-clause-on_error : goal.returns-in_default-clause-on_error
returns-in_default-clause-on_error c = search rules

pub returns-clause-on_ok : goal.returns-clause-on_ok
returns-clause-on_ok c = search rules
