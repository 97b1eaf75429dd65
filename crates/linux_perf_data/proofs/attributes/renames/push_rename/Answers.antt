use Rattle.std.proofs.Common.{◌≡◌, ◌∙◌, [], ap, sym}
use Rattle.std.proofs.lemmas.List.{get_or-map}
use Rattle.perfdata_sections.specs.AttributeDescription.{ids_in}
use Rattle.linux_perf_data.specs.steps.NameTable.{name_from_table}
use Rattle.linux_perf_data.specs.steps.Renames.{ids_at}
use Rattle.linux_perf_data.proofs.RenameLemmas.{renamed_more}
use Rattle.linux_perf_data.proofs.attributes.renames.push_rename.Goals as goal

pub returns : goal.returns
returns c =
    let ds = c.args.attributes.now in
    let d = c.index-attributes-index.result in
    let ids : ids_at ds c.args.index ≡ c.ids.result.now = get_or-map ids_in ds c.args.index d [] c.requires ∙ sym (ap ids_in c.index-attributes-index.is) ∙ sym c.ids.ensures in
    renamed_more ds c.args.table.now c.args.renames.now.items c.push.new.self.items c.args.index c.in_ok-name.name c.in_ok-push.ensures.items c.requires (c.in_ok-name.ensures ∙ ap (name_from_table c.args.table.now) (sym ids))
