use Rattle.std.proofs.Common.{◌≡◌, ◌-◌, ◌≤◌}
use Rattle.linux_perf_data.specs.RecordEntries.{with_prefix}
use Rattle.perfdata_events.specs.ReadValues.{counter_count}
use Rattle.perfdata_arrays.specs.Counters.{group_entries}
use Rattle.perfdata_arrays.proofs.counters.write_group.Given as goal

abbrev pub invariant-counters : goal.invariant-counters
invariant-counters l = record {
  within : l.index ≤ counter_count l.fn.group;
  written : l.counters ≡ with_prefix (group_entries l.fn.offset l.fn.group l.index) l.initial.counters;
}

abbrev pub decreases-counters : goal.decreases-counters
decreases-counters l = counter_count l.fn.group - l.index
