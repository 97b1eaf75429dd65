use Rattle.std.proofs.Common.{◌≡◌, ◌+◌, ◌-◌, ◌≤◌, List, ℕ, length}
use Rattle.perfdata_chunks.specs.Chunks.{AreFrames, WritesEntries, round_count}
use Rattle.perfdata_chunks.proofs.records.chunk_records.Given as goal

abbrev pub invariant-records : goal.invariant-records
invariant-records l = record {
  frames : (frames : List (List ℕ)) × AreFrames l.fn.endian l.initial.position.offset l.chunk frames l.count l.start
      × WritesEntries l.fn.endian l.initial.position frames l.initial.entries l.count l.entries × (l.position.round ≡ l.initial.position.round + round_count l.fn.endian frames);
  fits : l.count ≤ length l.initial.entries;
  within : l.start ≤ length l.chunk;
  offset : l.position.offset ≡ l.initial.position.offset + l.start;
  round_fits : l.position.round ≤ l.position.offset;
}

abbrev pub decreases-records : goal.decreases-records
decreases-records l = length l.chunk - l.start
