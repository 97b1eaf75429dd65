use Rattle.std.proofs.Common.{map, take}
use Rattle.perfdata_views.specs.Counts.{Counts}
use Rattle.perfdata_views.specs.Entries.{entries_in}
use Rattle.perfdata_views.specs.steps.Lines.{added_of}
use Rattle.perfdata_views.proofs.lines.line_counts.Given as goal

abbrev pub invariant-entries : goal.invariant-entries
invariant-entries l = Counts (map added_of (take l.index (entries_in l.profile))) l.counts
