use Rattle.std.proofs.Common.{◌≡◌, ◌∙◌, ap, sym}
use Rattle.perfdata_identifiers.specs.ParseInfo.{id_parse_info_of}
use Rattle.linux_perf_data.specs.Attribute.{Attribute}
use Rattle.linux_perf_data.specs.Descriptions.{described_attribute}
use Rattle.linux_perf_data.proofs.ConsistencyChecks.{all_more, one_of_all, all_consumed, offsets_equal, offsets_apart}
use Rattle.linux_perf_data.proofs.attributes.consistency.id_offsets_agree.Goals as goal

pub returns-then-ne : goal.returns-then-ne
returns-then-ne c = λ all.
    let P = λ (b : Attribute). id_parse_info_of b.attr ≡ id_parse_info_of (described_attribute c.args.first.now).attr in
    let own = c.new.ensures ∙ ap id_parse_info_of c.attributes-in-attributes.ensures in
    let first = c.new-id_parse_info.ensures ∙ ap id_parse_info_of c.attributes-2.ensures in
    let same = one_of_all P c.args.attributes.now c.attributes.attribute-index c.attribute-item.result c.attributes-test.true c.attribute-item.is all in
    offsets_apart c.new.result c.new-id_parse_info.result (sym c.ne.ensures ∙ c.if-ne.true) (own ∙ same ∙ sym first)

pub attributes-preserved : goal.attributes-preserved
attributes-preserved c =
    let P = λ (b : Attribute). id_parse_info_of b.attr ≡ id_parse_info_of (described_attribute c.args.first.now).attr in
    let own = c.new.ensures ∙ ap id_parse_info_of c.attributes-in-attributes.ensures in
    let first = c.new-id_parse_info.ensures ∙ ap id_parse_info_of c.attributes-2.ensures in
    let same = offsets_equal c.new.result c.new-id_parse_info.result (sym c.ne.ensures ∙ c.if-ne.false) in
    all_more P c.args.attributes.now c.attributes.attribute-index c.attribute-item.result c.attributes-test.true c.attribute-item.is (sym own ∙ same ∙ first) c.attributes.invariant

pub returns : goal.returns
returns c =
    let P = λ (b : Attribute). id_parse_info_of b.attr ≡ id_parse_info_of (described_attribute c.args.first.now).attr in
    all_consumed P c.args.attributes.now c.attributes.attribute-index c.attributes-test.false c.attributes.invariant
