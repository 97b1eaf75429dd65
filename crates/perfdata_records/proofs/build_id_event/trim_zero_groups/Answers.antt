use Rattle.std.proofs.Common.{suc, sym, ◌∙◌}
use Rattle.perfdata_records.proofs.BuildIds.{group_split}
use Rattle.perfdata_records.proofs.build_id_event.trim_zero_groups.Goals as goal

pub groups-preserved : goal.groups-preserved
groups-preserved c =
    let inv = c.groups.invariant in
    (suc inv.0, group_split c.args.bytes.now c.groups.rest.now inv.0 inv.1 (sym c.ends_with.ensures.value ∙ c.groups-test.true))
