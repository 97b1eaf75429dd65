use Rattle.std.proofs.Common.{◌-◌, ◌^◌}
use Rattle.perfdata_arrays.proofs.DecodedWalks.{SoFar}
use Rattle.perfdata_arrays.proofs.pages.decode_records.Given as goal

abbrev pub invariant-records : goal.invariant-records
invariant-records g l = record {
  so_far : SoFar g.D.RecordDecoder.kind l.fn.counts_all l.initial.input l.initial.perf_file l.initial.entries l.initial.frames l.count l.used l.input l.perf_file l.entries l.frames;
}

abbrev pub decreases-records : goal.decreases-records
decreases-records g l = 2 ^ 64 - l.input.records.offset
