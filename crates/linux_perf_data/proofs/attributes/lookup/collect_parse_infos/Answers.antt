use Rattle.std.proofs.Common.{◌∙◌, ap}
use Rattle.perfdata_identifiers.specs.ParseInfo.{parse_info_of}
use Rattle.linux_perf_data.proofs.ConsistencyChecks.{infos_more, infos_all}
use Rattle.linux_perf_data.proofs.attributes.lookup.collect_parse_infos.Goals as goal

pub attributes-preserved : goal.attributes-preserved
attributes-preserved c =
    infos_more c.args.endian c.args.attributes.now c.attributes.attribute-index c.attribute-item.result _ _ _ c.attributes-test.true c.attribute-item.is (c.new.ensures ∙ ap (λ a. parse_info_of a c.args.endian) c.attributes-in-attributes.ensures) c.in_ok-push.ensures.items c.attributes.invariant

pub returns : goal.returns
returns c = infos_all c.args.endian c.args.attributes.now c.attributes.attribute-index _ c.attributes-test.false c.attributes.invariant
