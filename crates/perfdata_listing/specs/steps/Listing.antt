-- Steps of private functions: what a listing of records writes, and the causes of its errors.
use Rattle.std.specs.Prelude.{◌≡◌, ◌≢◌, ◌⊎◌, ℕ, Bool, List, [], ◌∷◌, ◌++◌, length, flat_map, Option, Result, Ok, Err}
use Rattle.linux_perf_data.specs.Iter.{iter_source_state, section_size_of}
use Rattle.linux_perf_data.specs.LateMetadata.{AccumulatesMetadata}
use Rattle.linux_perf_data.specs.Layout.{RecordView}
use Rattle.linux_perf_data.specs.Reading.{SourceErrorInSomeRecord}
use Rattle.linux_perf_data.specs.steps.Reading.{AreFirstRemaining, EndsWithError, EndsComplete}
use Rattle.linux_perf_data.specs.declared.perf_file.PerfFile.{PerfFile}
use Rattle.linux_perf_data.specs.declared.records.iter.PerfRecordIter.{PerfRecordIter}
use Rattle.linux_perf_data.specs.declared.records.iter.Stage.TheVariants.{Running, Ended}
use Rattle.perfdata_sources.specs.Source.{State}
use Rattle.perfdata_listing_lines.specs.ListingLine.{record_line}
use Rattle.perfdata_listing.specs.declared.list.ListCause.TheVariants.{Perf, Write}
use Rattle.perfdata_listing.specs.declared.list.ListCause.{ListCause}
use Rattle.perfdata_listing.specs.declared.list.ListFault.{ListFault}
use Rattle.perfdata_sections.specs.declared.error.Error.TheVariants.{Memory}
use Rattle.perfdata_sections.specs.declared.error.Error.{Error}
use Rattle.perfdata_listing.specs.Listing.{IsWrite, WritesLines, WrotePrefix}

-- the lines of records, in order
abbrev pub record_lines : List RecordView → List ℕ
record_lines records = flat_map record_line records

module _ (IsLine : RecordView → List ℕ → Type 0) (allocates : Bool) where
  module _ {R : Type 0} (state : R → State) where
    -- all remaining records of an iterator are listed, none if it had ended
    pub record ListedAll (old : PerfRecordIter R) (file : PerfFile) (before after : Option (List ℕ)) (lines : ℕ) (new : PerfRecordIter R)
        (file' : PerfFile) : Type 0 where
      pub records : List RecordView
      pub count : lines ≡ length records
      pub appends : WritesLines IsLine allocates before after records
      pub prefix : AreFirstRemaining state old records
      pub complete : old.stage ≡ Running → EndsComplete state old records new
      pub none_if_ended : old.stage ≡ Ended → records ≡ []
      pub file_updated : AccumulatesMetadata old.endian (section_size_of state old) records file file'

    -- the first records are listed, and then reading fails
    pub record ListedUntilError (old : PerfRecordIter R) (before after : Option (List ℕ)) (lines : ℕ) (e : Error) (new : PerfRecordIter R) : Type 0 where
      pub was_running : old.stage ≡ Running
      pub records : List RecordView
      pub count : lines ≡ length records
      pub appends : WritesLines IsLine allocates before after records
      pub prefix : AreFirstRemaining state old records
      pub cause : e ≢ Memory → EndsWithError state old records e
          ⊎ SourceErrorInSomeRecord old.endian (section_size_of state old) (iter_source_state state old) e (iter_source_state state new)

    -- the first records are listed, and a proper prefix of the next record's line is written
    pub record ListedPartOfNext (old : PerfRecordIter R) (before after : Option (List ℕ)) (lines : ℕ) : Type 0 where
      pub was_running : old.stage ≡ Running
      pub records : List RecordView
      pub next : RecordView
      pub count : lines ≡ length records
      pub wrote : WrotePrefix IsLine allocates before after records next
      pub prefix : AreFirstRemaining state old (records ++ next ∷ [])

    -- the first records are listed, and then the flush of their lines before a possible wait fails
    pub record ListedUntilFlushError (old : PerfRecordIter R) (before after : Option (List ℕ)) (lines : ℕ) : Type 0 where
      pub was_running : old.stage ≡ Running
      pub records : List RecordView
      pub count : lines ≡ length records
      pub appends : WritesLines IsLine allocates before after records
      pub prefix : AreFirstRemaining state old records

    abbrev pub ListingFails : PerfRecordIter R → Option (List ℕ) → Option (List ℕ) → ℕ → ListCause → PerfRecordIter R → Type 0
    ListingFails old before after lines (Perf e) new = ListedUntilError old before after lines e new
    ListingFails old before after lines (Write e) new = ListedPartOfNext old before after lines
    ListingFails old before after lines _ new = ⊥

    -- what a listing of an iterator's records does
    abbrev pub ListsRecords : PerfRecordIter R → PerfFile → Option (List ℕ) → Result ℕ ListFault → Option (List ℕ) → PerfRecordIter R → PerfFile → Type 0
    ListsRecords old file before (Ok lines) after new file' = ListedAll old file before after lines new file'
    ListsRecords old file before (Err error) after new file' = ListingFails old before after error.lines error.cause new

    -- the same for a live input, except that the flush of its lines may also fail
    abbrev pub LiveListingFails : PerfRecordIter R → Option (List ℕ) → Option (List ℕ) → ℕ → ListCause → PerfRecordIter R → Type 0
    LiveListingFails old before after lines cause new =
        ListingFails old before after lines cause new ⊎ (IsWrite cause × ListedUntilFlushError old before after lines)

    abbrev pub ListsLiveRecords : PerfRecordIter R → PerfFile → Option (List ℕ) → Result ℕ ListFault → Option (List ℕ) → PerfRecordIter R → PerfFile → Type 0
    ListsLiveRecords old file before (Ok lines) after new file' = ListedAll old file before after lines new file'
    ListsLiveRecords old file before (Err error) after new file' = LiveListingFails old before after error.lines error.cause new
