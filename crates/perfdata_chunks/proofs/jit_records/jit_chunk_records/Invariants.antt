use Rattle.std.proofs.Common.{◌+◌, ◌-◌, ◌^◌, ◌<◌, ◌≤◌, length}
use Rattle.perfdata_chunks.proofs.jit_records.jit_chunk_records.Given as goal

abbrev pub invariant-records : goal.invariant-records
invariant-records l = record {
  fits : l.count ≤ length l.initial.entries;
  within : l.start ≤ length l.chunk;
  end_fits : l.offset + l.start < 2 ^ 64;
}

abbrev pub decreases-records : goal.decreases-records
decreases-records l = length l.chunk - l.start
