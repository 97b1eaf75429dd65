use Rattle.std.proofs.Common.{◌-◌, ◌^◌, ◌<◌, ◌≤◌}
use Rattle.perfdata_listing.proofs.ListingLemmas.{SoFar}
use Rattle.perfdata_listing.proofs.list.list_records.Given as goal

abbrev pub invariant-records : goal.invariant-records
invariant-records g l = record {
  offset_in_range : l.records.offset < 2 ^ 64;
  count_below_offset : l.lines ≤ l.records.offset;
  listed : SoFar g.L.LineFormat.is_line g.L.LineFormat.allocates g.R.Source.state l.initial.records l.initial.perf_file (g.W.Write.contents l.initial.out) l.lines (g.W.Write.contents l.out) l.records l.perf_file;
}

abbrev pub decreases-records : goal.decreases-records
decreases-records g l = 2 ^ 64 - l.records.offset
