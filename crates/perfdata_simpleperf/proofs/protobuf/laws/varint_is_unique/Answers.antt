use Rattle.std.proofs.lemmas.List.Elements.{recursion_from_All}
use Rattle.perfdata_simpleperf.proofs.Decoding.NumberUniqueness.{number_is_unique}
use Rattle.perfdata_simpleperf.proofs.Decoding.ItemDecidability.{number_either}
use Rattle.perfdata_simpleperf.proofs.protobuf.laws.varint_is_unique.Goals as goal

pub returns-clause-value : goal.returns-clause-value
returns-clause-value c = λ bs. (number_is_unique bs).value

pub returns-clause-not_both : goal.returns-clause-not_both
returns-clause-not_both c = λ bs. (number_is_unique bs).not_both

pub returns-clause-error : goal.returns-clause-error
returns-clause-error c = λ bs. (number_is_unique bs).error

pub returns-clause-decided : goal.returns-clause-decided
returns-clause-decided c = λ bs are. number_either bs (recursion_from_All _ bs are)
