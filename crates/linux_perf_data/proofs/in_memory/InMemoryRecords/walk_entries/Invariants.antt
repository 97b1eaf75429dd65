use Rattle.std.proofs.Common.{◌-◌, length}
use Rattle.linux_perf_data.specs.steps.FileWalk.{IsWalkAhead, records_at_walk}
use Rattle.linux_perf_data.specs.steps.WalkEntries.{EntriesSoFar}
use Rattle.linux_perf_data.proofs.in_memory.InMemoryRecords.walk_entries.Given as goal

abbrev pub invariant-records : goal.invariant-records
invariant-records l = record {
  ahead : IsWalkAhead l.self l.walk;
  so_far : EntriesSoFar l.initial.self l.initial.entries (records_at_walk l.self l.walk ahead) l.entries l.count;
}

abbrev pub decreases-records : goal.decreases-records
decreases-records l = length l.initial.entries - l.count
