-- Steps of private functions: the records of a file in pages: a call writes the records from a position on, and moves the position past them.
use Rattle.std.specs.Prelude.{◌≡◌, ◌⊎◌, ◌≤◌, ◌<◌, List, length, Ok}
use Rattle.linux_perf_data.specs.declared.in_memory.InMemoryRecords.{InMemoryRecords}
use Rattle.linux_perf_data.specs.declared.perf_file.PerfFile.{PerfFile}
use Rattle.linux_perf_data.specs.InMemoryPositions.{position_of}
use Rattle.linux_perf_data.specs.InMemoryReading.{NeedsMemoryInPipeOnly, ReturnsRecordsInMemory, first_record_offset_of, input_of}
use Rattle.linux_perf_data.specs.Layout.{RecordView}
use Rattle.linux_perf_data.specs.RecordEntries.{with_prefix, HasBodiesAt, record_entries_at}
use Rattle.perfdata_arrays.specs.steps.Walk.{WalkEnds}
use Rattle.linux_perf_data.specs.declared.in_memory.entries.RecordEntry.{RecordEntry}
use Rattle.perfdata_arrays.specs.declared.records.PageWalk.{PageWalk}

-- ---- a walk

-- The walk returns these records, and writes and counts their entries. It stops when the array is full, at the end of the records,
-- or at an error. The next position is after the last of the records.
pub record WalksPage (old : InMemoryRecords) (file : PerfFile) (before : List RecordEntry) (walked : PageWalk) (new : InMemoryRecords) (file' : PerfFile)
    (after : List RecordEntry) : Type 0 where
  pub records : List RecordView
  pub input_at_end : InMemoryRecords
  pub file_at_end : PerfFile
  pub returned : ReturnsRecordsInMemory old file records input_at_end file_at_end
  pub next : walked.next ≡ position_of input_at_end
  pub count : walked.count ≡ length records
  pub fits : length records ≤ length before
  pub written : after ≡ with_prefix (record_entries_at (first_record_offset_of old) records) before
  pub body_bytes_at : HasBodiesAt (input_of old) (first_record_offset_of old) records
  pub ends : ((walked.end ≡ Ok tt) × (length records ≡ length before))
      ⊎ ((length records < length before) × WalkEnds input_at_end.records file_at_end walked.end new.records file'
      × NeedsMemoryInPipeOnly input_at_end walked.end)
