-- Steps of private functions: the entries and frames of a file's records in pages, and those of a pipe.
use Rattle.std.specs.Prelude.{◌≡◌, ℕ, ◌+◌, ◌<◌, ◌≤◌, ◌==◌, ◌++◌, Bool, false, List, [], ◌∷◌, length, Result, if◌then◌else◌}
use Rattle.perfdata_sections.specs.declared.error.Error.{Error}
use Rattle.linux_perf_data.specs.Attribute.{Attribute}
use Rattle.linux_perf_data.specs.InMemory.{memory_state}
use Rattle.linux_perf_data.specs.InMemoryPositions.{position_of}
use Rattle.linux_perf_data.specs.InMemoryReading.{NeedsMemoryForMetadataOnly, NeedsMemoryInPipeOnly, ReturnsRecordsInMemory, first_record_offset_of}
use Rattle.linux_perf_data.specs.Iter.{section_size_of}
use Rattle.linux_perf_data.specs.Layout.{RecordView, attributes_in_views}
use Rattle.linux_perf_data.specs.PerfFile.{attributes_of_file, endian_of_file}
use Rattle.linux_perf_data.specs.RecordEntries.{with_prefix}
use Rattle.linux_perf_data.specs.declared.in_memory.InMemoryRecords.{InMemoryRecords}
use Rattle.linux_perf_data.specs.declared.perf_file.PerfFile.{PerfFile}
use Rattle.perfdata_arrays.specs.Decoding.{AreEntriesOf, EntryKind, wants_frames}
use Rattle.perfdata_arrays.specs.steps.Decoding.{wants}
use Rattle.perfdata_arrays.specs.Status.{walk_status}
use Rattle.perfdata_arrays.specs.steps.Walk.{WalkEnds}
use Rattle.perfdata_arrays.specs.declared.decoder.EntryCounts.{EntryCounts}
use Rattle.perfdata_arrays.specs.declared.pages.WalkEnd.{WalkEnd}
use Rattle.perfdata_arrays.specs.declared.pages.WalkEnd.TheVariants.{Full, Exceeded, Records}
use Rattle.perfdata_arrays.specs.declared.pages.DecodingWalk.{DecodingWalk}
use Rattle.perfdata_arrays.specs.declared.pages.PageResult.{PageResult}
use Rattle.perfdata_arrays.specs.declared.status.Status.TheVariants.{NoSpace, Success}
use Rattle.perfdata_arrays.specs.DecodedPages.{page_result}

-- the attributes that are known after some records of an iterator
abbrev pub attributes_after : InMemoryRecords → PerfFile → List RecordView → List Attribute
attributes_after input file records = attributes_of_file file ++ attributes_in_views input.records.endian (section_size_of memory_state input.records) records

-- The result for the end of a walk: an error of its records, or no space for what the first record with entries adds.
abbrev pub result_of_end : WalkEnd → ℕ → ℕ → PageResult
result_of_end Full count used = page_result count used Success
result_of_end (Exceeded needed) count used = if count == 0 then page_result needed.entries needed.frames NoSpace else page_result count used Success
result_of_end (Records r) count used = page_result count used (walk_status r)

module _ {A B : Type 0} (kind : EntryKind A B) where
  -- ---- a walk

  -- After these records comes one that adds more than fits in the arrays, after this many entries and frames.
  pub record IsFollowedInWalk (old : InMemoryRecords) (file : PerfFile) (records : List RecordView) (capacity frames_capacity count used : ℕ)
      (needed : EntryCounts) (new : InMemoryRecords) (file' : PerfFile) : Type 0 where
    pub next : RecordView
    pub own : List A
    pub own_frames : List B
    pub adds : kind.Adds (wants_frames frames_capacity) (endian_of_file file) (attributes_after old file (records ++ next
        ∷ [])) (first_record_offset_of old) used next own own_frames
    pub exceeds : kind.Exceeds capacity frames_capacity count used own own_frames needed
    pub returned : ReturnsRecordsInMemory old file (records ++ next ∷ []) new file'

  -- the records end
  pub record RecordsEnd (counts_all : Bool) (old : InMemoryRecords) (file : PerfFile) (records : List RecordView) (capacity count : ℕ) (now : InMemoryRecords)
      (now_file : PerfFile) (r : Result (Unit {0}) Error) (new : InMemoryRecords) (file' : PerfFile) : Type 0 where
    pub fewer : counts_all ≡ false → count < capacity
    pub ends : WalkEnds now.records now_file r new.records file'
    pub in_pipe_only : NeedsMemoryInPipeOnly now r
    pub for_metadata_only : NeedsMemoryForMetadataOnly now r new
    pub attributes_are : attributes_of_file file' ≡ attributes_after old file records

  -- How the walk ends after these records: the array of entries is full, the next record adds more than fits, or the records end. A walk
  -- that counts all ends with the records.
  abbrev pub EndsWalk : Bool → InMemoryRecords → PerfFile → List RecordView → ℕ → ℕ → ℕ → ℕ → InMemoryRecords → PerfFile → WalkEnd → InMemoryRecords → PerfFile
      → Type 0
  EndsWalk counts_all old file records capacity frames_capacity count used now now_file Full new file' = (counts_all ≡ false) × (count ≡ capacity)
  EndsWalk counts_all old file records capacity frames_capacity count used now now_file (Exceeded needed) new file' =
      (counts_all ≡ false) × (count < capacity) × IsFollowedInWalk old file records capacity frames_capacity count used needed new file'
  EndsWalk counts_all old file records capacity frames_capacity count used now now_file (Records r) new file' =
      RecordsEnd counts_all old file records capacity count now now_file r new file'

  -- The walk returns these records, and counts and writes what they add, up to the capacities. The next position is after the last of
  -- them.
  pub record DecodesRecords (counts_all : Bool) (old : InMemoryRecords) (file : PerfFile) (entries : List A) (frames : List B) (walk : DecodingWalk)
      (new : InMemoryRecords) (file' : PerfFile) (entries' : List A) (frames' : List B) : Type 0 where
    pub records : List RecordView
    pub input_at_end : InMemoryRecords
    pub file_at_end : PerfFile
    pub returned : ReturnsRecordsInMemory old file records input_at_end file_at_end
    pub next : walk.next ≡ position_of input_at_end
    pub own : List A
    pub own_frames : List B
    pub are_entries : AreEntriesOf (kind.Adds (wants counts_all (length frames))) (endian_of_file file) (attributes_after old file)
        (first_record_offset_of old) records own own_frames
    pub count_is : walk.count ≡ length own
    pub frames_count_is : walk.frames_count ≡ length own_frames
    pub written : entries' ≡ with_prefix own entries
    pub frames_written : frames' ≡ with_prefix own_frames frames
    pub fits : counts_all ≡ false → (length own ≤ length entries) × (length own_frames ≤ length frames)
    pub ends : EndsWalk counts_all old file records (length entries) (length frames) (length own)
        (length own_frames) input_at_end file_at_end walk.end new file'
