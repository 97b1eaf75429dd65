-- The records that a walk takes, and their entries. The iterator stays where the walk started.
use Rattle.std.specs.Prelude.{◌≡◌, ℕ, ◌≤◌, List, length}
use Rattle.perfdata_records.specs.declared.record.PerfFileRecord.{PerfFileRecord}
use Rattle.linux_perf_data.specs.declared.in_memory.InMemoryRecords.{InMemoryRecords}
use Rattle.linux_perf_data.specs.declared.in_memory.entries.RecordEntry.{RecordEntry}
use Rattle.linux_perf_data.specs.declared.in_memory.file_walk.FileWalk.{FileWalk}
use Rattle.linux_perf_data.specs.declared.perf_file.PerfFile.{PerfFile}
use Rattle.linux_perf_data.specs.declared.records.iter.RecordPlace.{RecordPlace}
use Rattle.linux_perf_data.specs.steps.FileWalk.{IsWalkAhead, records_at_walk}
use Rattle.linux_perf_data.specs.InMemoryReading.{KeepsInput, ReturnsRecordInMemory, ReturnsRecordsInMemory, first_record_offset_of, input_of}
use Rattle.linux_perf_data.specs.Layout.{RecordView}
use Rattle.linux_perf_data.specs.RecordEntries.{HasBodiesAt, ReadsEntries, record_entries_at, with_prefix}
use Rattle.linux_perf_data.specs.steps.RecordEntries.{TakesEntry}

-- The walk took the next record.
pub record RecordOfWalk (old : InMemoryRecords) (walk : FileWalk) (ahead : IsWalkAhead old walk) (place : RecordPlace) (r : PerfFileRecord)
    (new : InMemoryRecords) (walk' : FileWalk) : Type 0 where
  pub ahead' : IsWalkAhead new walk'
  pub returned : (file : PerfFile) → ReturnsRecordInMemory (records_at_walk old walk ahead) file place r (records_at_walk new walk' ahead') file
  pub same_input : KeepsInput old new

abbrev pub TakesRecordOfWalk : InMemoryRecords → FileWalk → RecordPlace → PerfFileRecord → InMemoryRecords → FileWalk → Type 0
TakesRecordOfWalk old walk place r new walk' = (ahead : IsWalkAhead old walk) → RecordOfWalk old walk ahead place r new walk'

-- The walk took the next record, and this is its entry.
pub record EntryOfWalk (old : InMemoryRecords) (walk : FileWalk) (ahead : IsWalkAhead old walk) (entry : RecordEntry) (new : InMemoryRecords)
    (walk' : FileWalk) : Type 0 where
  pub ahead' : IsWalkAhead new walk'
  pub taken : TakesEntry (records_at_walk old walk ahead) entry (records_at_walk new walk' ahead')

abbrev pub TakesEntryOfWalk : InMemoryRecords → FileWalk → RecordEntry → InMemoryRecords → FileWalk → Type 0
TakesEntryOfWalk old walk entry new walk' = (ahead : IsWalkAhead old walk) → EntryOfWalk old walk ahead entry new walk'

-- A walk from these records took the next records, and their entries were written.
pub record ReadsEntriesOfWalk (old : InMemoryRecords) (before : List RecordEntry) (count : ℕ) (new : InMemoryRecords) (walk : FileWalk)
    (after : List RecordEntry) : Type 0 where
  pub ahead : IsWalkAhead new walk
  pub reads : ReadsEntries old before count (records_at_walk new walk ahead) after

-- The next records were returned and their entries written, as `ReadsEntries` says, wherever the calls stop.
pub record EntriesSoFar (start : InMemoryRecords) (array : List RecordEntry) (now : InMemoryRecords) (entries : List RecordEntry) (count : ℕ) : Type 0 where
  pub records : List RecordView
  pub count_is : count ≡ length records
  pub fits : length records ≤ length array
  pub written : entries ≡ with_prefix (record_entries_at (first_record_offset_of start) records) array
  pub returned : (file : PerfFile) → ReturnsRecordsInMemory start file records now file
  pub body_bytes_at : HasBodiesAt (input_of start) (first_record_offset_of start) records
  pub same_input : KeepsInput start now

-- Entries of the next records were written after those that were written before.
pub record MoreEntries (new : InMemoryRecords) (walk : FileWalk) (start now : InMemoryRecords) (array before : List RecordEntry) (count : ℕ)
    (after : List RecordEntry) (count' : ℕ) : Type 0 where
  pub ahead : IsWalkAhead new walk
  pub so_far : EntriesSoFar start array now before count → EntriesSoFar start array (records_at_walk new walk ahead) after count'

abbrev pub WritesMoreEntries : InMemoryRecords → FileWalk → List RecordEntry → ℕ → InMemoryRecords → FileWalk → List RecordEntry → ℕ → Type 0
WritesMoreEntries old walk before count new walk' after count' =
    (ahead : IsWalkAhead old walk) (start : InMemoryRecords) (array : List RecordEntry)
    → MoreEntries new walk' start (records_at_walk old walk ahead) array before count after count'
