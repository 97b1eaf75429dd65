-- Steps of private functions: the entries of records in memory.
use Rattle.std.specs.Prelude.{◌≡◌}
use Rattle.linux_perf_data.specs.declared.in_memory.InMemoryRecords.{InMemoryRecords}
use Rattle.linux_perf_data.specs.declared.in_memory.entries.RecordEntry.{RecordEntry}
use Rattle.linux_perf_data.specs.declared.perf_file.PerfFile.{PerfFile}
use Rattle.linux_perf_data.specs.RecordViews.{record_view_of}
use Rattle.perfdata_records.specs.declared.record.PerfFileRecord.{PerfFileRecord}
use Rattle.linux_perf_data.specs.declared.records.iter.RecordPlace.{RecordPlace}
use Rattle.linux_perf_data.specs.InMemoryReading.{KeepsInput, ReturnsRecordInMemory, first_record_offset_of}
use Rattle.linux_perf_data.specs.RecordEntries.{record_entry_at}

-- The next record was returned, and this is its entry. No `PerfFile` is changed.
pub record TakesEntry (old : InMemoryRecords) (entry : RecordEntry) (new : InMemoryRecords) : Type 0 where
  pub place : RecordPlace
  pub found : PerfFileRecord
  pub returned : (file : PerfFile) → ReturnsRecordInMemory old file place found new file
  pub is_entry : entry ≡ record_entry_at (first_record_offset_of old) (record_view_of place found)
  pub same_input : KeepsInput old new
