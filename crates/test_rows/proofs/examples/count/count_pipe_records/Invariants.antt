use Rattle.std.proofs.Common.{◌≡◌, ℕ, ◌-◌, ◌^◌, ◌<◌, ◌≤◌, List, length, Bor, Some}
use Rattle.std.specs.Prelude.{IsTrue}
use Rattle.std.specs.Io.Cursor.{cursor_inner, cursor_position}
use Rattle.std.specs.declared.io.impls.Cursor.{Cursor}
use Rattle.perfdata_sources.specs.Source.{State, memory_source_at}
use Rattle.linux_perf_data.specs.Layout.{RecordView}
use Rattle.linux_perf_data.specs.OpenedPipe.{PipeParsed}
use Rattle.linux_perf_data.specs.Reading.{ReturnsRecords}
use Rattle.test_rows.proofs.examples.count.count_pipe_records.Given as goal

-- the source's state in contracts, for a slice that is read from its start
abbrev pub state : Cursor (Bor (List ℕ)) → State
state c = memory_source_at (cursor_inner c).now (cursor_position c)

abbrev pub invariant-records : goal.invariant-records
invariant-records l = record {
  offset_in_range : l.records.offset < 2 ^ 64;
  count_below_offset : l.count ≤ l.records.offset;
  opened : (old : State) × (old.bytes ≡ Some l.fn.bytes) × IsTrue old.steady × PipeParsed state old l.initial.perf_file l.initial.records;
  returned : (records : List RecordView) × (l.count ≡ length records) × ReturnsRecords state l.initial.records l.initial.perf_file records l.records l.perf_file;
}

abbrev pub decreases-records : goal.decreases-records
decreases-records l = 2 ^ 64 - l.records.offset
