use Rattle.std.proofs.Common.{rules}
use Rattle.perfdata_identifiers.proofs.place.record_fields.get_record_identifier.Goals as goal

pub returns : goal.returns
returns g c = search rules
