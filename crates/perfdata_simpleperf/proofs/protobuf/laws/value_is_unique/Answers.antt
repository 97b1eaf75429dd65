use Rattle.perfdata_simpleperf.proofs.Decoding.ValueUniqueness.{record_same}
use Rattle.perfdata_simpleperf.proofs.Decoding.ValueExistence.{record_some}
use Rattle.perfdata_simpleperf.proofs.protobuf.laws.value_is_unique.Goals as goal

pub returns-clause-value : goal.returns-clause-value
returns-clause-value c = record_same

pub returns-clause-exists : goal.returns-clause-exists
returns-clause-exists c = record_some
