-- The entries and frames of a file's records in pages, and those of a pipe.
use Rattle.std.specs.Prelude.{◌≡◌, ◌⊎◌, ℕ, ◌+◌, ◌<◌, ◌≤◌, ◌++◌, true, List, [], ◌∷◌, length, None}
use Rattle.perfdata_sources.specs.Source.{at_start}
use Rattle.linux_perf_data.specs.FileOpening.{IsFileError}
use Rattle.linux_perf_data.specs.Layout.{RecordView, attributes_in_records, attributes_in_views}
use Rattle.linux_perf_data.specs.PerfFile.{attributes_of_file, endian_of_file}
use Rattle.linux_perf_data.specs.PipeOpening.{IsPipeError}
use Rattle.linux_perf_data.specs.RecordEntries.{with_prefix}
use Rattle.linux_perf_data.specs.declared.in_memory.position.RecordPosition.{RecordPosition}
use Rattle.linux_perf_data.specs.declared.perf_file.PerfFile.{PerfFile}
use Rattle.perfdata_arrays.specs.Decoding.{AreEntriesOf, EntryKind, wants_frames}
use Rattle.perfdata_arrays.specs.Pages.{IsPage}
use Rattle.perfdata_arrays.specs.Records.{FailsWithStatus, IsPipeWithRecords}
use Rattle.perfdata_arrays.specs.declared.decoder.EntryCounts.{EntryCounts}
use Rattle.perfdata_arrays.specs.declared.pages.PageResult.{PageResult}
use Rattle.perfdata_arrays.specs.declared.status.Status.{Status}
use Rattle.perfdata_arrays.specs.declared.status.Status.TheVariants.{NoSpace, Success}

-- the result of a page that wrote these numbers, or reports them
abbrev pub page_result : ℕ → ℕ → Status → PageResult
page_result count frames_count status = record { count = count; frames_count = frames_count; status = status }

module _ {A B : Type 0} (kind : EntryKind A B) where
  -- ---- a page

  -- The record that follows these, up to another position, adds more than fits, after this many entries and frames.
  pub record IsFollowedByTooMany (bytes : List ℕ) (base : ℕ) (from : RecordPosition) (file : PerfFile) (records : List RecordView)
      (capacity frames_capacity count used : ℕ) (needed : EntryCounts) : Type 0 where
    pub next : RecordView
    pub own : List A
    pub own_frames : List B
    pub adds : kind.Adds (wants_frames frames_capacity) (endian_of_file file) (attributes_of_file file) base used next own own_frames
    pub exceeds : kind.Exceeds capacity frames_capacity count used own own_frames needed
    pub after : RecordPosition
    pub follows : IsPage bytes base from (length records + 1) (records ++ next ∷ []) Success after

  -- The next record has no space: as the first one that adds entries, or after others.
  abbrev pub ReportsNoSpace : ℕ → ℕ → EntryCounts → PageResult → Type 0
  ReportsNoSpace count used needed result =
      ((count ≡ 0) × (result ≡ page_result needed.entries needed.frames NoSpace)) ⊎ ((0 < count) × (result ≡ page_result count used Success))

  -- The entries and frames are those of the records of a file from a position on, up to another position, by the attributes of the file.
  -- The page ends because the array of entries is full, or else because the next record adds more than fits, or because the records end.
  -- The first record of the input is at an offset.
  pub record IsDecodedPage (bytes : List ℕ) (from : RecordPosition) (capacity frames_capacity : ℕ) (own : List A) (own_frames : List B) (result : PageResult)
      (next : RecordPosition) : Type 0 where
    pub records : List RecordView
    pub base : ℕ
    pub first_record_offset : ℕ
    pub first_is_base : (records ≡ []) ⊎ (first_record_offset ≡ base)
    pub records_capacity : ℕ
    pub end : Status
    pub page : IsPage bytes base from records_capacity records end next
    pub are_entries : AreEntriesOf (kind.Adds (wants_frames frames_capacity)) (endian_of_file page.file)
        (λ _. attributes_of_file page.file) first_record_offset records own own_frames
    pub ends :
        ((length own ≡ capacity) × (result ≡ page_result (length own) (length own_frames) Success))
        ⊎ (((length own < capacity) × (needed : EntryCounts)
        × IsFollowedByTooMany bytes base from page.file records capacity frames_capacity (length own) (length own_frames) needed
        × ReportsNoSpace (length own) (length own_frames) needed result)
        ⊎ ((length own < capacity) × (length records < records_capacity) × (result ≡ page_result (length own) (length own_frames) end)))

  -- The result for a page. If the file doesn't open, nothing is written, and the position is unchanged.
  pub record ReadsDecodedPage (bytes : List ℕ) (from : RecordPosition) (entries : List A) (frames : List B) (result : PageResult) (next : RecordPosition)
      (entries' : List A) (frames' : List B) : Type 0 where
    pub own : List A
    pub own_frames : List B
    pub fits : length own ≤ length entries
    pub written : entries' ≡ with_prefix own entries
    pub frames_fit : length own_frames ≤ length frames
    pub frames_written : frames' ≡ with_prefix own_frames frames
    pub ends : ((own ≡ []) × (own_frames ≡ []) × (next ≡ from) × (result ≡ page_result 0 0 result.status)
        × FailsWithStatus result.status (IsFileError (at_start bytes)))
        ⊎ IsDecodedPage bytes from (length entries) (length frames) own own_frames result next

  -- ---- a pipe

  -- The entries and frames are those of the records after the opening of a pipe. The attributes of each are those of the opening and of
  -- the records up to it. The first record is at an offset.
  pub record IsDecodedPipe (bytes : List ℕ) (own : List A) (own_frames : List B) (s : Status) : Type 0 where
    pub records : List RecordView
    pub file : PerfFile
    pub is_pipe : IsPipeWithRecords bytes records file s
    pub first_record_offset : ℕ
    pub first_record_at : (records ≡ []) ⊎ (first_record_offset + length is_pipe.rest ≡ length bytes)
    pub are_entries : AreEntriesOf (kind.Adds true) is_pipe.endian (λ before. attributes_in_records is_pipe.endian None is_pipe.metadata_records
        ++ attributes_in_views is_pipe.endian None before) first_record_offset records own own_frames

  -- The result for a pipe: all is counted, and written up to the capacities. If the pipe doesn't open, there is nothing.
  pub record ReadsDecodedPipe (bytes : List ℕ) (entries : List A) (frames : List B) (result : PageResult) (entries' : List A) (frames' : List B) : Type 0 where
    pub own : List A
    pub own_frames : List B
    pub count_is : result.count ≡ length own
    pub frames_count_is : result.frames_count ≡ length own_frames
    pub written : entries' ≡ with_prefix own entries
    pub frames_written : frames' ≡ with_prefix own_frames frames
    pub ends : ((own ≡ []) × (own_frames ≡ []) × FailsWithStatus result.status (IsPipeError bytes)) ⊎ IsDecodedPipe bytes own own_frames result.status
