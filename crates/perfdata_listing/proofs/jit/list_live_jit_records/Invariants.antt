use Rattle.std.proofs.Common.{◌-◌, ◌^◌, ◌≤◌}
use Rattle.perfdata_jit.specs.JitDumpReader.{jit_offset}
use Rattle.perfdata_listing.specs.JitListing.{CallsFlushed}
use Rattle.perfdata_listing.proofs.JitListingLemmas.{SoFar}
use Rattle.perfdata_listing.proofs.jit.list_live_jit_records.Given as goal

abbrev pub invariant-records : goal.invariant-records
invariant-records g l = record {
  count_below_offset : l.lines ≤ jit_offset l.reader;
  live : CallsFlushed g.R.Source.state g.W.FlushPending.pending g.W.Write.contents l.lines l.initial.reader l.initial.out l.out l.reader;
  listed : SoFar g.R.Source.state l.initial.reader (g.W.Write.contents l.initial.out) l.lines (g.W.Write.contents l.out) l.reader;
}

abbrev pub decreases-records : goal.decreases-records
decreases-records g l = 2 ^ 64 - jit_offset l.reader
