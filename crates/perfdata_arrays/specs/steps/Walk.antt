-- The entries that a walk over the records of an input in memory writes, and how it ends.
use Rattle.std.specs.Prelude.{◌≡◌, ℕ, ◌+◌, ◌≤◌, List, ◌++◌, length, Result, Ok, Err}
use Rattle.perfdata_sections.specs.declared.error.Error.{Error}
use Rattle.linux_perf_data.specs.declared.in_memory.InMemoryRecords.{InMemoryRecords}
use Rattle.linux_perf_data.specs.declared.perf_file.PerfFile.{PerfFile}
use Rattle.linux_perf_data.specs.Iter.{ReturnsEnd, ReturnsError}
use Rattle.linux_perf_data.specs.InMemory.{memory_state, MemoryIter}
use Rattle.linux_perf_data.specs.InMemoryReading.{KeepsInput, NeedsMemoryForMetadataOnly, ReturnsRecordsInMemory, input_of, first_record_offset_of}
use Rattle.linux_perf_data.specs.Layout.{RecordView}
use Rattle.perfdata_arrays.specs.Overwrites.{with_prefix_from}
use Rattle.linux_perf_data.specs.RecordEntries.{HasBodiesAt, record_entries_at}
use Rattle.linux_perf_data.specs.declared.in_memory.entries.RecordEntry.{RecordEntry}
use Rattle.perfdata_arrays.specs.declared.records.WalkResult.{WalkResult}

-- The walk ends with the end of the records or with an error.
abbrev pub WalkEnds : {A : Type 0} → MemoryIter → PerfFile → Result A Error → MemoryIter → PerfFile → Type 0
WalkEnds now file (Ok _) new file' = ReturnsEnd memory_state now file new file'
WalkEnds now file (Err e) new file' = ReturnsError memory_state now file e new file'

-- The next records were returned and counted, and their entries follow those of the `count` records before them, in an array of the
-- entries from index `start` on. No `PerfFile` is changed.
pub record ReadsMoreEntries (start count : ℕ) (old : InMemoryRecords) (before : List RecordEntry) (more : ℕ) (new : InMemoryRecords)
    (after : List RecordEntry) : Type 0 where
  pub records : List RecordView
  pub returned : (file : PerfFile) → ReturnsRecordsInMemory old file records new file
  pub more_is : more ≡ length records
  pub fits : count ≤ start + length before → count + more ≤ start + length before
  pub written : (entries array : List RecordEntry) → count ≡ length entries → before ≡ with_prefix_from start entries array
      → after ≡ with_prefix_from start (entries ++ record_entries_at (first_record_offset_of old) records) array
  pub body_bytes_at : HasBodiesAt (input_of old) (first_record_offset_of old) records
  pub same_input : KeepsInput old new

-- The walk returns and counts these records, writes their entries, and ends. The input contains each body at the offset in its
-- entry.
pub record WalksRecords (old : InMemoryRecords) (file : PerfFile) (start : ℕ) (before : List RecordEntry) (walked : WalkResult) (new : InMemoryRecords)
    (file' : PerfFile) (after : List RecordEntry) : Type 0 where
  pub records : List RecordView
  pub input_at_end : InMemoryRecords
  pub file_at_end : PerfFile
  pub returned : ReturnsRecordsInMemory old file records input_at_end file_at_end
  pub count : walked.count ≡ length records
  pub written : after ≡ with_prefix_from start (record_entries_at (first_record_offset_of old) records) before
  pub body_bytes_at : HasBodiesAt (input_of old) (first_record_offset_of old) records
  pub ends : WalkEnds input_at_end.records file_at_end walked.end new.records file'
  pub memory : NeedsMemoryForMetadataOnly input_at_end walked.end new
