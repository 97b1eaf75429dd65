use Rattle.std.proofs.Common.{◌∙◌}
use Rattle.std.specs.Option.{option_map}
use Rattle.linux_perf_data.specs.steps.NameTable.{name_from_table}
use Rattle.linux_perf_data.proofs.NameTables.{named_by_table}
use Rattle.linux_perf_data.proofs.Naming.{named_by}
use Rattle.linux_perf_data.proofs.attributes.names.NameTable.name_attributes.Goals as goal

pub returns : goal.returns
returns c =
    let table = c.in_ok-table.table in
    let new = c.set_names.new.attributes in
    let same = c.set_names.ensures.same in
    let named = named_by (name_from_table table) c.args.attributes.now new (c.set_names.ensures.names ∙ c.in_ok-names.ensures) same in
    (named_by_table c.args.endian table (option_map (λ s. s.now) c.args.event_desc) new c.in_ok-table.ensures.0 c.in_ok-table.ensures.1 named, same, c.in_ok-table.ensures.0, c.in_ok-table.ensures.1, named)
