use Rattle.std.proofs.Common.{◌≢◌, ◌∙◌, ap, length, rules}
use Rattle.std.specs.Prelude.{Some}
use Rattle.linux_perf_data.proofs.LookupIds.{event_same, resolves_event, resolves_first, resolves_one}
use Rattle.linux_perf_data.proofs.attributes.lookup.AttributeLookup.find_attr_index.Goals as goal

pub returns-then-len-eq1-clause-resolves : goal.returns-then-len-eq1-clause-resolves
returns-then-len-eq1-clause-resolves c = λ order attrs k kernel. resolves_one order c.args.self.now attrs c.args.record_type.0 c.args.body.now k kernel (search rules)

pub returns-in-None-clause-resolves : goal.returns-in-None-clause-resolves
returns-in-None-clause-resolves c = λ order attrs k kernel. resolves_first order c.args.self.now attrs c.args.record_type.0 c.args.body.now k kernel (search rules)

pub returns-in-Some-clause-resolves : goal.returns-in-Some-clause-resolves
returns-in-Some-clause-resolves c = λ order attrs k kernel.
    let old = c.args.self.now in
    let several : length old.parse_infos.items ≢ 1 = search rules in
    resolves_event order old attrs c.args.record_type.0 c.args.body.now c.in-Some.id c.attr_index_by_id.result k kernel several (search rules) (c.attr_index_by_id.ensures.resolves order attrs k) (search rules)
    ∙ ap Some (event_same old c.attr_index_by_id.new.self c.attr_index_by_id.result c.attr_index_by_id.ensures.same_parse_infos.0 c.attr_index_by_id.ensures.same_parse_infos.1)
