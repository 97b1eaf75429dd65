use Rattle.std.proofs.Common.{◌≡◌, ◌-◌, ◌≤◌, List, length}
use Rattle.linux_perf_data.specs.declared.in_memory.InMemoryRecords.{InMemoryRecords}
use Rattle.linux_perf_data.specs.declared.in_memory.entries.RecordEntry.{RecordEntry}
use Rattle.linux_perf_data.specs.steps.FileWalk.{IsWalkAhead, records_at_walk}
use Rattle.linux_perf_data.specs.InMemoryReading.{first_record_offset_of}
use Rattle.linux_perf_data.specs.steps.WalkEntries.{EntriesSoFar}
use Rattle.linux_perf_data.proofs.in_memory.InMemoryRecords.walk_kernel_entries.Given as goal

abbrev pub invariant-records : goal.invariant-records
invariant-records l = record {
  ahead : IsWalkAhead l.self l.walk;
  so_far : (before : IsWalkAhead l.initial.self l.initial.walk) (start : InMemoryRecords) (array : List RecordEntry) → EntriesSoFar start array (records_at_walk l.initial.self l.initial.walk before) l.initial.entries l.initial.count → EntriesSoFar start array (records_at_walk l.self l.walk ahead) l.entries l.count;
  from_count : l.initial.count ≤ l.count;
  same_first : first_record_offset_of l.self ≡ first_record_offset_of l.initial.self;
}

abbrev pub decreases-records : goal.decreases-records
decreases-records l = length l.initial.entries - l.count
