use Rattle.std.proofs.Common.{◌≡◌, ◌-◌, ◌^◌}
use Rattle.linux_perf_data.specs.InMemory.{memory_state}
use Rattle.linux_perf_data.proofs.IterCalls.{Idles}
use Rattle.linux_perf_data.proofs.in_memory.iter.take_next_record.Given as goal

abbrev pub invariant-raw_records : goal.invariant-raw_records
invariant-raw_records l = record {
  idles : Idles memory_state l.fn.records l.records;
  file : l.perf_file ≡ l.fn.perf_file;
}

abbrev pub decreases-raw_records : goal.decreases-raw_records
decreases-raw_records l = 2 ^ 64 - l.records.offset
