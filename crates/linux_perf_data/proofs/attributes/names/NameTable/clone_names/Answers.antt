use Rattle.std.proofs.Common.{◌∙◌, ap}
use Rattle.linux_perf_data.specs.steps.NameTable.{name_from_table}
use Rattle.linux_perf_data.proofs.NameTables.{names_more, names_all}
use Rattle.linux_perf_data.proofs.attributes.names.NameTable.clone_names.Goals as goal

pub attributes-preserved : goal.attributes-preserved
attributes-preserved c =
    names_more c.args.self.now c.args.attributes.now c.attributes.attribute-index c.attribute-item.result _ _ _ c.attributes-test.true c.attribute-item.is (c.in_ok-name.ensures ∙ ap (name_from_table c.args.self.now) c.ids.ensures) c.in_ok-push.ensures.items c.attributes.invariant

pub returns : goal.returns
returns c = names_all c.args.self.now c.args.attributes.now c.attributes.attribute-index _ c.attributes-test.false c.attributes.invariant
