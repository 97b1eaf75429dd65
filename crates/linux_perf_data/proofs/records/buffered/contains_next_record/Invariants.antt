use Rattle.std.proofs.Common.{◌+◌, ◌-◌, ◌≤◌, length, take, drop}
use Rattle.linux_perf_data.specs.BufferedRecord.{ContainsNextRecord}
use Rattle.linux_perf_data.specs.RecordInput.{section_size_in}
use Rattle.linux_perf_data.specs.Layout.{ConsistsOfMarkers}
use Rattle.linux_perf_data.proofs.records.buffered.contains_next_record.Given as goal

abbrev pub invariant-records : goal.invariant-records
invariant-records l = record {
  within : l.position ≤ length l.bytes;
  markers : ConsistsOfMarkers l.endian (section_size_in l.input) l.offset (take l.position l.bytes);
  remaining : ContainsNextRecord l.endian (section_size_in l.input) l.offset l.bytes → ContainsNextRecord l.endian (section_size_in l.input) (l.offset + l.position) (drop l.position l.bytes);
}

abbrev pub decreases-records : goal.decreases-records
decreases-records l = length l.bytes - l.position
