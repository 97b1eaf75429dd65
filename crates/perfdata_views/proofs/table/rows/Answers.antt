use Rattle.std.proofs.Common.{◌∙◌, ap, subst, sym}
use Rattle.perfdata_profile.specs.Profiles.{lists_of}
use Rattle.perfdata_profile.specs.SampleSums.{entries_of}
use Rattle.perfdata_views.specs.FunctionTables.{IsTableOf}
use Rattle.perfdata_views.specs.steps.FunctionTables.{rows_of}
use Rattle.perfdata_views.specs.Entries.{entries_in}
use Rattle.perfdata_views.proofs.TableRows.{if_ok, table_is}
use Rattle.perfdata_views.proofs.table.rows.Goals as goal

pub returns : goal.returns
returns c =
    let table = table_is (lists_of c.args.profile.now.tables) c.args.profile.now.tables.names.once c.args.profile.now.tables.within (entries_of c.args.profile.now.sums) c.in_ok-counted.counted.items c.in_ok-counted.ensures in
    if_ok c.used_rows.result c.used_rows.ensures (λ rows is. subst (IsTableOf (lists_of c.args.profile.now.tables) (entries_in c.args.profile.now)) (sym (is ∙ ap (rows_of 0) c.as_slice.ensures.value)) table)
