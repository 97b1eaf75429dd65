-- What a listing of a pipe writes, and the causes of its errors.
use Rattle.std.specs.Prelude.{◌≡◌, Bool, ◌≢◌, ◌⊎◌, ℕ, List, [], ◌∷◌, ◌++◌, length, Option, None, Some, Result, Ok, Err, IfSome, IsErr}
use Rattle.perfdata_sources.specs.Source.{State, SourcePaused}
use Rattle.perfdata_sources.specs.declared.endian.Endianness.{Endianness}
use Rattle.perfdata_sections.specs.declared.error.Error.{Error}
use Rattle.perfdata_sections.specs.declared.error.Error.TheVariants.{Memory}
use Rattle.linux_perf_data.specs.declared.perf_file.PerfFile.{PerfFile}
use Rattle.linux_perf_data.specs.declared.records.iter.PerfRecordIter.{PerfRecordIter}
use Rattle.linux_perf_data.specs.Layout.{RecordView, ends_with_error, LayoutError}
use Rattle.linux_perf_data.specs.OpenedPipe.{PipeParsed, without_position}
use Rattle.linux_perf_data.specs.RecordFraming.{IsErrorFor}
use Rattle.linux_perf_data.specs.PipeOpening.{FailsBy, IsPipeError}
use Rattle.linux_perf_data.specs.PipeReading.{HoldsForPipeRest, HoldsAllMetadata, IsCompletePipe, HoldsForPipe, OpensWith}
use Rattle.linux_perf_data.specs.Reading.{AreFirstRecords, SourceErrorInSomeRecord}
use Rattle.perfdata_listing.specs.Listing.{FlushesBeforeBlocking, IsWrite, WrotePrefix, WritesLines}
use Rattle.perfdata_listing.specs.declared.list.ListFault.{ListFault}
use Rattle.perfdata_listing.specs.declared.list.ListCause.{ListCause}
use Rattle.perfdata_listing.specs.declared.list.ListCause.TheVariants.{Perf, Write}

module _ (IsLine : RecordView → List ℕ → Type 0) (allocates : Bool) where
  -- All records of a pipe are listed: its layout is complete, or the source paused. There are none if no record header
  -- follows its opening. The `PerfFile` contains exactly the metadata that was read.
  pub record ListedPipe (old : State) (before after : Option (List ℕ)) (lines : ℕ) (file : PerfFile) : Type 0 where
    pub endian : Endianness
    pub metadata_records : List (List ℕ)
    pub pending_header : Option (List ℕ)
    pub opening : OpensWith endian metadata_records old pending_header
    pub records : List RecordView
    pub none_without_header : pending_header ≡ None → records ≡ []
    pub count : lines ≡ length records
    pub appends : WritesLines IsLine allocates before after records
    pub file_updated : HoldsAllMetadata endian metadata_records records file
    pub first : IfSome old.bytes (λ bytes. HoldsForPipeRest endian metadata_records bytes (λ Remaining. AreFirstRecords Remaining records))
    pub source_after : State
    pub complete : IfSome old.bytes (IsCompletePipe endian metadata_records records) ⊎ SourcePaused old source_after

  -- The first records of a pipe are listed, and then its reading fails: after these records the layout ends with an error
  -- that this one reports, or the source failed or paused.
  pub record FailsAfterOpening (old : State) (records : List RecordView) (e : Error) : Type 0 where
    pub endian : Endianness
    pub metadata_records : List (List ℕ)
    pub pending_header : List ℕ
    pub opening : OpensWith endian metadata_records old (Some pending_header)
    pub source_after : State
    pub first : IfSome old.bytes (λ bytes. HoldsForPipe endian metadata_records bytes (λ Remaining. AreFirstRecords Remaining records))
    pub cause : e ≢ Memory → IfSome old.bytes (λ bytes. HoldsForPipe endian metadata_records bytes (λ Remaining. (f : LayoutError)
        × Remaining records (ends_with_error f) × IsErrorFor f e))
        ⊎ SourceErrorInSomeRecord endian None (without_position old) e source_after

  -- Some records are listed, and then the reading of the pipe fails: in its opening, with no record listed, or after it.
  pub record ListedPipeUntilError (old : State) (before after : Option (List ℕ)) (lines : ℕ) (e : Error) : Type 0 where
    pub records : List RecordView
    pub count : lines ≡ length records
    pub appends : WritesLines IsLine allocates before after records
    pub cause : ((records ≡ []) × ((source_after : State) × FailsBy IsPipeError old e source_after)) ⊎ FailsAfterOpening old records e

  -- the first records of a pipe are listed, and a proper prefix of the next record's line is written
  pub record ListedPipePartOfNext (old : State) (before after : Option (List ℕ)) (lines : ℕ) : Type 0 where
    pub endian : Endianness
    pub metadata_records : List (List ℕ)
    pub pending_header : List ℕ
    pub opening : OpensWith endian metadata_records old (Some pending_header)
    pub records : List RecordView
    pub next : RecordView
    pub count : lines ≡ length records
    pub wrote : WrotePrefix IsLine allocates before after records next
    pub first : IfSome old.bytes (λ bytes. HoldsForPipe endian metadata_records bytes (λ Remaining. AreFirstRecords Remaining (records ++ next ∷ [])))

  -- the first records of a pipe are listed, and then the flush of their lines before a possible wait fails
  pub record ListedPipeUntilFlushError (old : State) (before after : Option (List ℕ)) (lines : ℕ) : Type 0 where
    pub endian : Endianness
    pub metadata_records : List (List ℕ)
    pub pending_header : List ℕ
    pub opening : OpensWith endian metadata_records old (Some pending_header)
    pub records : List RecordView
    pub count : lines ≡ length records
    pub appends : WritesLines IsLine allocates before after records
    pub first : IfSome old.bytes (λ bytes. HoldsForPipe endian metadata_records bytes (λ Remaining. AreFirstRecords Remaining records))

  abbrev pub PipeListingFails : State → Option (List ℕ) → Option (List ℕ) → ℕ → ListCause → Type 0
  PipeListingFails old before after lines (Perf e) = ListedPipeUntilError old before after lines e
  PipeListingFails old before after lines (Write e) = ListedPipePartOfNext old before after lines
  PipeListingFails old before after lines _ = ⊥

  -- what a listing of a pipe does
  abbrev pub ListsPipe : State → Option (List ℕ) → Result ℕ ListFault → Option (List ℕ) → Type 0
  ListsPipe old before (Ok lines) after = (file : PerfFile) × ListedPipe old before after lines file
  ListsPipe old before (Err error) after = PipeListingFails old before after error.lines error.cause

  -- what a listing of a live pipe does: the same, except that the flush of its lines may also fail
  -- A live pipe is opened, and no byte is pending in a call for a record that may block. Or it doesn't open, and nothing is written.
  abbrev pub FlushesPipeBeforeBlocking : {R W : Type 0} → (R → State) → (W → List ℕ) → (W → Option (List ℕ)) → State → W → Result ℕ ListFault → W → Type 0
  FlushesPipeBeforeBlocking {R} state pending contents old before r after =
      ((file : PerfFile) × (it : PerfRecordIter R) × PipeParsed state old file it
      × (new : PerfRecordIter R) × (file' : PerfFile) × FlushesBeforeBlocking IsLine allocates state pending contents it file before r after new file')
      ⊎ (IsErr r × (after ≡ before))

  abbrev pub ListsLivePipe : State → Option (List ℕ) → Result ℕ ListFault → Option (List ℕ) → Type 0
  ListsLivePipe old before (Ok lines) after = (file : PerfFile) × ListedPipe old before after lines file
  ListsLivePipe old before (Err error) after =
      PipeListingFails old before after error.lines error.cause ⊎ (IsWrite error.cause × ListedPipeUntilFlushError old before after error.lines)
