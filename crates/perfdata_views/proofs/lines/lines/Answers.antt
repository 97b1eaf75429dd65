use Rattle.std.proofs.Common.{◌∙◌, map, sym}
use Rattle.perfdata_profile.specs.Profiles.{lists_of}
use Rattle.perfdata_profile.specs.SampleSums.{entries_of}
use Rattle.perfdata_views.specs.Entries.{entries_in}
use Rattle.perfdata_views.specs.steps.Lines.{added_of}
use Rattle.perfdata_views.proofs.LineSums.{lines_are, sum_of_lines}
use Rattle.perfdata_views.proofs.lines.lines.Goals as goal

pub returns-clause-lines : goal.returns-clause-lines
returns-clause-lines c =
    let all = c.in_ok-counts.ensures in
    lines_are (entries_in c.args.profile.now) c.in_ok-counts.counts all c.iter-lines.ensures.ascending (c.iter-lines.ensures.lines (map added_of (entries_in c.args.profile.now)) all)

pub returns-clause-total : goal.returns-clause-total
returns-clause-total c =
    sum_of_lines (lists_of c.args.profile.now.tables) (entries_of c.args.profile.now.sums) c.in_ok-counts.counts c.in_ok-counts.ensures ∙ sym c.args.profile.now.sums.weights_summed
