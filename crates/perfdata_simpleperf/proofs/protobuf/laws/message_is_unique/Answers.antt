use Rattle.std.proofs.lemmas.List.Elements.{recursion_from_All}
use Rattle.perfdata_simpleperf.proofs.Decoding.MessageUniqueness.{file_same, file_not_both, file_error}
use Rattle.perfdata_simpleperf.proofs.Decoding.MessageDecidability.{file_some}
use Rattle.perfdata_simpleperf.proofs.protobuf.laws.message_is_unique.Goals as goal

pub returns-clause-value : goal.returns-clause-value
returns-clause-value c = file_same

pub returns-clause-not_both : goal.returns-clause-not_both
returns-clause-not_both c = file_not_both

pub returns-clause-error : goal.returns-clause-error
returns-clause-error c = file_error

pub returns-clause-decided : goal.returns-clause-decided
returns-clause-decided c = λ bs are. file_some bs (recursion_from_All _ bs are)
