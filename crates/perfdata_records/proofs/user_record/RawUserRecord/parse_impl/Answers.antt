use Rattle.std.proofs.Common.{rules}
use Rattle.perfdata_records.proofs.user_record.RawUserRecord.parse_impl.Goals as goal

pub returns-in_default-clause-value : goal.returns-in_default-clause-value
returns-in_default-clause-value g c = search rules
