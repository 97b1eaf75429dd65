use Rattle.std.proofs.Common.{rules, ◌≡◌, ◌<◌, ◌∙◌, ap, sym, arith, length}
use Rattle.std.proofs.lemmas.List.{nil_from_length}
use Rattle.perfdata_sections.specs.AttributeDescription.{name_in}
use Rattle.linux_perf_data.specs.Names.{name_by_first_id}
use Rattle.linux_perf_data.proofs.NameTables.{index_within, name_found, name_missed, no_ids}
use Rattle.linux_perf_data.proofs.attributes.names.NameTable.get.Goals as goal

pub returns-then-is_empty : goal.returns-then-is_empty
returns-then-is_empty c =
    let described = c.args.self.now.events.items in
    let none : length c.args.ids.now ≡ 0 = search rules in
    sym (ap (name_by_first_id described) (nil_from_length c.args.ids.now none) ∙ no_ids described)

pub index-requires : goal.index-requires
index-requires c =
    let table = c.args.self.now in
    let some : 0 < length c.args.ids.now = search rules in
    let within = index_within table.index_by_first_id table.events.items c.args.ids.now table.indexes_first_ids some c.in-Some.index.now c.in-Some.ensures.value in
    let there = table.events.ok in
    omega (arith, within, there)

pub returns-in-Some : goal.returns-in-Some
returns-in-Some c =
    let table = c.args.self.now in
    let some : 0 < length c.args.ids.now = search rules in
    c.name.ensures ∙ ap name_in c.index.ensures ∙ name_found table.index_by_first_id table.events.items c.args.ids.now table.indexes_first_ids some c.in-Some.index.now c.index.result.now c.in-Some.ensures.value

pub returns-in-None : goal.returns-in-None
returns-in-None c =
    let table = c.args.self.now in
    let some : 0 < length c.args.ids.now = search rules in
    name_missed table.index_by_first_id table.events.items c.args.ids.now table.indexes_first_ids some c.in-None.ensures.value
