use Rattle.std.proofs.Common.{[]}
use Rattle.perfdata_profile.specs.Interned.{lines_number}
use Rattle.perfdata_profile.specs.Profiles.{lists_of}
use Rattle.perfdata_profile.specs.Values.{lines_value}
use Rattle.perfdata_views.proofs.LineSums.{missing}
use Rattle.perfdata_views.proofs.pprof_profile.find_lines.Goals as goal

pub returns-in-None : goal.returns-in-None
returns-in-None c =
    let lists = lists_of c.args.tables.now in
    missing (lines_value lists) lists.lines (lines_number c.args.id) [] c.in-None.ensures
