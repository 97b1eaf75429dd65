use Rattle.std.proofs.Common.{◌-◌, ◌^◌, ◌<◌}
use Rattle.perfdata_listing.specs.ByTime.{ListedSteps}
use Rattle.perfdata_listing.proofs.by_time.list_by_time.Given as goal

abbrev pub invariant-records : goal.invariant-records
invariant-records g l = record {
  count_fits : l.lines < 2 ^ 64;
  listed : ListedSteps g.L.LineFormat.is_line g.L.LineFormat.allocates l.initial.records l.initial.perf_file (g.W.Write.contents l.initial.out) (g.W.Write.contents l.out) l.lines l.records l.perf_file;
}

abbrev pub decreases-records : goal.decreases-records
decreases-records g l = 2 ^ 64 - l.lines
