use Rattle.perfdata_events.proofs.OneParsed.{one_parsed, parsed_or_failed}
use Rattle.perfdata_events.proofs.WholeBodies.{parsed_whole}
use Rattle.perfdata_events.proofs.laws.a_body_has_one_form.Goals as goal

pub returns-clause-unique : goal.returns-clause-unique
returns-clause-unique c = one_parsed

pub returns-clause-parsed_or_failed : goal.returns-clause-parsed_or_failed
returns-clause-parsed_or_failed c = parsed_or_failed

pub returns-clause-whole : goal.returns-clause-whole
returns-clause-whole c = parsed_whole
