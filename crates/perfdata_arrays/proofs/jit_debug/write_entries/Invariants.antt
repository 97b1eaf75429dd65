use Rattle.std.proofs.Common.{◌≡◌, ◌-◌, ◌≤◌, length, take}
use Rattle.perfdata_arrays.specs.JitDebug.{debug_entries_at}
use Rattle.perfdata_arrays.specs.steps.JitDebug.{debug_end}
use Rattle.linux_perf_data.specs.RecordEntries.{with_prefix}
use Rattle.perfdata_arrays.proofs.jit_debug.write_entries.Given as goal

abbrev pub invariant-entries : goal.invariant-entries
invariant-entries l = record {
  within : l.index ≤ length l.entries;
  end : l.offset ≡ debug_end l.first_offset (take l.index l.entries);
  written : l.out ≡ with_prefix (debug_entries_at l.first_offset (take l.index l.entries)) l.initial.out;
}

abbrev pub decreases-entries : goal.decreases-entries
decreases-entries l = length l.entries - l.index
