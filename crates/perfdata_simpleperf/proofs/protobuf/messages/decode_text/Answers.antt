use Rattle.std.proofs.Common.{rules}
use Rattle.perfdata_simpleperf.proofs.protobuf.messages.decode_text.Goals as goal

pub returns-in-Err-clause-on_ok : goal.returns-in-Err-clause-on_ok
returns-in-Err-clause-on_ok c = search rules
