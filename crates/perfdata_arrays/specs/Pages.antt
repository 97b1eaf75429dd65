-- The records of a file in pages: a call writes the records from a position on, and moves the position past them.
use Rattle.std.specs.Prelude.{◌≡◌, ◌⊎◌, ℕ, ◌+◌, ◌^◌, ◌≤◌, ◌<◌, List, [], ◌∷◌, ◌++◌, length}
use Rattle.perfdata_sources.specs.Source.{at_start}
use Rattle.perfdata_base.specs.declared.header.PerfHeader.{PerfHeader}
use Rattle.linux_perf_data.specs.declared.in_memory.position.RecordPosition.{RecordPosition}
use Rattle.linux_perf_data.specs.declared.perf_file.PerfFile.{PerfFile}
use Rattle.linux_perf_data.specs.FileOpening.{IsFileError}
use Rattle.linux_perf_data.specs.InMemoryPositions.{FileRecordsFrom, round_at}
use Rattle.linux_perf_data.specs.Layout.{LayoutEnd, LayoutError, RecordView, ends_complete, ends_with_error, truncated_header, size_below_header, end_overflows, truncated_body, compressed_record, aux_body_too_short, aux_end_overflows, truncated_aux_data}
use Rattle.linux_perf_data.specs.OpenedFile.{DescribesFile}
use Rattle.linux_perf_data.specs.PerfFile.{attributes_of_file, endian_of_file}
use Rattle.linux_perf_data.specs.Reading.{end_after}
use Rattle.perfdata_arrays.specs.Records.{FailsWithStatus, WritesRecords}
use Rattle.linux_perf_data.specs.declared.in_memory.entries.RecordEntry.{RecordEntry}
use Rattle.perfdata_arrays.specs.declared.records.RecordsResult.{RecordsResult}
use Rattle.perfdata_arrays.specs.declared.status.Status.{Status}
use Rattle.perfdata_arrays.specs.declared.status.Status.TheVariants.{BadRecordSize, Compressed, Other, Success, Truncated, TruncatedRecord}

-- ---- positions

-- The round of the last of these records, or this round if there are none.
abbrev pub round_after : ℕ → List RecordView → ℕ
round_after round [] = round
round_after round (h ∷ hs) = round_after h.round hs

-- The position directly after the last of these records: the end of its body or aux data, before any marker that follows. If there
-- are none, it is the position from which they are read; its round is at most its offset.
abbrev pub position_after : RecordPosition → List RecordView → RecordPosition
position_after from records = record { offset = end_after from.offset records; round = round_after (round_at from) records }

-- ---- a page

-- the status for the end of a file's records
abbrev pub layout_error_status : LayoutError → Status
layout_error_status truncated_header = Truncated
layout_error_status size_below_header = BadRecordSize
layout_error_status end_overflows = TruncatedRecord
layout_error_status truncated_body = TruncatedRecord
layout_error_status compressed_record = Compressed
layout_error_status aux_body_too_short = Truncated
layout_error_status aux_end_overflows = TruncatedRecord
layout_error_status truncated_aux_data = TruncatedRecord
layout_error_status _ = Other

abbrev pub layout_end_status : LayoutEnd → Status
layout_end_status ends_complete = Success
layout_end_status (ends_with_error f) = layout_error_status f

-- These are the records of a file from a position on, up to the position after the last of them. Either there are as many as the
-- array has elements, or there are fewer, the records end at that position, and the status is that of their end.
pub record IsPage (bytes : List ℕ) (base : ℕ) (from : RecordPosition) (capacity : ℕ) (records : List RecordView) (status : Status)
    (next : RecordPosition) : Type 0 where
  pub file : PerfFile
  pub header : PerfHeader
  pub describes : DescribesFile (at_start bytes) header file
  pub first_record_at : base ≡ header.data_section.offset
  -- remaining(from) = records ++ remaining(next)
  pub extends_remaining : (rest : List RecordView) (end : LayoutEnd)
      → FileRecordsFrom bytes (endian_of_file file) header next (attributes_of_file file) rest end
      → FileRecordsFrom bytes (endian_of_file file) header from (attributes_of_file file) (records ++ rest) end
  pub ends : ((status ≡ Success) × (length records ≡ capacity))
      ⊎ ((length records < capacity) × ((end : LayoutEnd) × FileRecordsFrom bytes (endian_of_file file) header next (attributes_of_file file) [] end
      × (status ≡ layout_end_status end)))
  pub next_position : next ≡ position_after from records
  pub next_fits : next.offset < 2 ^ 64
  pub next_round_fits : next.round ≤ next.offset

-- The result for a page. If the file doesn't open, no record is written, and the position is unchanged.
pub record ReadsFilePage (bytes : List ℕ) (from : RecordPosition) (old : List RecordEntry) (result : RecordsResult) (next : RecordPosition)
    (new : List RecordEntry) : Type 0 where
  pub records : List RecordView
  pub base : ℕ
  pub writes : WritesRecords bytes base 0 records old result new
  pub fits : length records ≤ length old
  pub ends : ((records ≡ []) × (next ≡ from) × FailsWithStatus result.status (IsFileError (at_start bytes)))
      ⊎ IsPage bytes base from (length old) records result.status next

-- ---- laws of pages

-- A full page and the next page are one page of an array for both.
abbrev pub PagesJoin : Type 0
PagesJoin =
    (bytes : List ℕ) (base later_base capacity later_capacity : ℕ) (from middle next : RecordPosition) (records later : List RecordView) (status : Status) →
    IsPage bytes base from capacity records Success middle → length records ≡ capacity → IsPage bytes later_base middle later_capacity later status next
    → IsPage bytes base from (capacity + later_capacity) (records ++ later) status next

-- The records from a position on, the status and the next position are determined by the capacity, or by any capacity above the
-- number of records.
abbrev pub PageIsUnique : Type 0
PageIsUnique =
    (bytes : List ℕ) (base base' capacity capacity' : ℕ) (from next next' : RecordPosition) (records records' : List RecordView) (status status' : Status) →
    (capacity ≡ capacity') ⊎ ((length records < capacity) × (length records' < capacity')) →
    IsPage bytes base from capacity records status next → IsPage bytes base' from capacity' records' status' next'
    → (records ≡ records') × (status ≡ status') × (base ≡ base') × (next ≡ next')
