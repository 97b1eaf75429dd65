-- Reading a file from start to end: the opening, the records that consecutive calls return, and what ends them.
use Rattle.std.specs.Prelude.{◌≡◌, ◌≢◌, ℕ, ◌+◌, ◌≤◌, ◌⊎◌, List, length, drop, Option, Some}
use Rattle.perfdata_sources.specs.Source.{State, Position}
use Rattle.perfdata_sources.specs.declared.endian.Endianness.{Endianness}
use Rattle.perfdata_sections.specs.declared.error.Error.{Error}
use Rattle.linux_perf_data.specs.declared.records.iter.PerfRecordIter.{PerfRecordIter}
use Rattle.linux_perf_data.specs.declared.perf_file.PerfFile.{PerfFile}
use Rattle.linux_perf_data.specs.LateMetadata.{SamePerfFile}
use Rattle.linux_perf_data.specs.Layout.{ConsistsOfMarkers, RecordView, LayoutEnd, ends_complete, ends_with_error, LayoutError}
use Rattle.linux_perf_data.specs.RecordFraming.{IsErrorFor}
use Rattle.perfdata_base.specs.declared.header.PerfHeader.{PerfHeader}
use Rattle.perfdata_sections.specs.declared.error.Error.TheVariants.{Memory}
use Rattle.linux_perf_data.specs.PerfFile.{endian_of_file, attributes_of_file}
use Rattle.linux_perf_data.specs.OpenedFile.{DescribesFile, FileRecords, FileParsed}
use Rattle.linux_perf_data.specs.Iter.{ReturnsEnd, ReturnsError}
use Rattle.linux_perf_data.specs.Reading.{SourceErrorInSomeRecord, AreFirstRecords, end_after, ReturnsRecords, SourceErrorInCall}

-- `P` holds for the records of the file at position `p`.
abbrev pub HoldsForFile : Position → ((List RecordView → LayoutEnd → Type 0) → Type 0) → Type 0
HoldsForFile p P =
    (file : PerfFile) × ((header : PerfHeader) × DescribesFile p header file × P (FileRecords p (endian_of_file file) header (attributes_of_file file)))

-- The source error in a file.
abbrev pub SourceErrorInFile : State → Error → State → Type 0
SourceErrorInFile old e new = (order : Endianness) × ((size : ℕ) × SourceErrorInSomeRecord order (Some size) old e new)

-- The returned records are the first of the file at `p`, and all bytes after the last of them are unread.
pub record FilePartlyRead (p : Position) (file : PerfFile) (records : List RecordView) (unread : Option (List ℕ)) : Type 0 where
  pub header : PerfHeader
  pub describes : DescribesFile p header file
  pub first_records : AreFirstRecords (FileRecords p (endian_of_file file) header (attributes_of_file file)) records
  pub remaining : unread ≡ Some (drop (header.data_section.offset + end_after 0 records) p.all_bytes)

-- These are all records of the file. Its layout is complete, and all bytes after its last raw record are unread.
pub record FileRead (p : Position) (file : PerfFile) (records : List RecordView) (unread : Option (List ℕ)) : Type 0 where
  pub header : PerfHeader
  pub describes : DescribesFile p header file
  pub all_records : FileRecords p (endian_of_file file) header (attributes_of_file file) records ends_complete
  -- Markers fill the rest of the section after the last record.
  pub markers : List ℕ
  pub valid_markers : ConsistsOfMarkers (endian_of_file file) (Some header.data_section.size) (end_after 0 records) markers
  pub section_skipped : header.data_section.size ≤ end_after 0 records + length markers
  pub remaining : unread ≡ Some (drop (header.data_section.offset + (end_after 0 records + length markers)) p.all_bytes)

-- These are all records of the file before its layout error, and `e` reports that error.
pub record FileReadToError (p : Position) (file : PerfFile) (records : List RecordView) (e : Error) : Type 0 where
  pub header : PerfHeader
  pub describes : DescribesFile p header file
  pub layout_error : LayoutError
  pub all_records : FileRecords p (endian_of_file file) header (attributes_of_file file) records (ends_with_error layout_error)
  pub error_matches : IsErrorFor layout_error e

module _ {R : Type 0} (state : R → State) where
  -- Reading a file up to any of its records.
  abbrev pub ReadingFilePartly : Type 0
  ReadingFilePartly = (p : Position) (old : State) (file file' : PerfFile) (it now : PerfRecordIter R) (records : List RecordView) →
      old.position ≡ Some p → FileParsed state old file it → ReturnsRecords state it file records now file'
      → FilePartlyRead p file records (state now.source).bytes × (file' ≡ file)

  -- Reading a file up to its end.
  abbrev pub ReadingFileToEnd : Type 0
  ReadingFileToEnd = (p : Position) (old : State) (file now_file file' : PerfFile) (it now new : PerfRecordIter R) (records : List RecordView) →
      old.position ≡ Some p → FileParsed state old file it → ReturnsRecords state it file records now now_file → ReturnsEnd state now now_file new file'
      → FileRead p file records (state new.source).bytes × (file' ≡ file)

  -- Reading a file up to an error other than `Memory`.
  abbrev pub ReadingFileToError : Type 0
  ReadingFileToError = (p : Position) (old : State) (file now_file file' : PerfFile) (it now new : PerfRecordIter R) (records : List RecordView) (e : Error) →
      old.position ≡ Some p → FileParsed state old file it → ReturnsRecords state it file records now now_file → ReturnsError state now now_file e new file'
      → e ≢ Memory
      → (FileReadToError p file records e ⊎ SourceErrorInCall state old now e new) × SamePerfFile file file'
