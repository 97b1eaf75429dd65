use Rattle.std.proofs.Common.{rules, ◌≡◌, ◌<◌, ◌^◌}
use Rattle.perfdata_sections.specs.EventTypes.{type_name_at}
use Rattle.perfdata_sections.proofs.Entries.{described_result}
use Rattle.perfdata_sections.proofs.feature_sections.event_types.read_descriptions.Goals as goal

pub returns-clause-reads : goal.returns-clause-reads
returns-clause-reads g c =
    let fits : c.args.section.now.size < 2 ^ 64 = search rules in
    let same : c.deref.result.now ≡ c.in_ok-entries.entries.items = search rules in
    described_result g.T.ByteOrder.number_of c.args.attr_size (type_name_at c.args.types.now) c.args.section.now g.met.T.ByteOrder.reads_first _ _ _ c.in_ok-entries.entries.items c.deref.result.now c.describe_entries.result same (c.in_ok-entries.ensures.position, c.in_ok-entries.ensures.pauses)
    c.if-attr_size.false c.if-section.false fits c.in_ok-entries.ensures.reads c.describe_entries.ensures.reads
