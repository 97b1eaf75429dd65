-- What a listing of records writes, and the causes of its errors.
use Rattle.std.specs.Prelude.{◌≡◌, ◌≢◌, ◌⊎◌, ℕ, zero, suc, ◌<◌, Bool, true, false, List, [], ◌∷◌, ◌++◌, length, take, Option, Result, Ok, Err, IfSome, IsTrue, ⊤}
use Rattle.linux_perf_data.specs.BufferedRecord.{TestsNextBuffered}
use Rattle.linux_perf_data.specs.FileOpening.{IsFileError, SourceErrorInOpening}
use Rattle.linux_perf_data.specs.FileReading.{HoldsForFile, SourceErrorInFile}
use Rattle.linux_perf_data.specs.Iter.{ReturnsRecord, ReturnsEnd, ReturnsError}
use Rattle.linux_perf_data.specs.Layout.{RecordView, ends_complete, ends_with_error, LayoutError}
use Rattle.linux_perf_data.specs.Reading.{AreFirstRecords}
use Rattle.linux_perf_data.specs.RecordFraming.{IsErrorFor}
use Rattle.linux_perf_data.specs.declared.perf_file.PerfFile.{PerfFile}
use Rattle.linux_perf_data.specs.declared.records.iter.PerfRecordIter.{PerfRecordIter}
use Rattle.perfdata_sources.specs.Source.{State}
use Rattle.perfdata_listing_lines.specs.Output.{AppendsPrefix}
use Rattle.perfdata_listing.specs.declared.list.ListCause.TheVariants.{Perf, Write}
use Rattle.perfdata_listing.specs.declared.list.ListCause.{ListCause}
use Rattle.perfdata_listing.specs.declared.list.ListFault.{ListFault}
use Rattle.perfdata_sections.specs.declared.error.Error.TheVariants.{Memory}
use Rattle.perfdata_sections.specs.declared.error.Error.{Error}
use Rattle.std.specs.Io.KnownBytes.{Appends, Keeps}

-- whether the cause is an error of the writer
abbrev pub IsWrite : ListCause → Type 0
IsWrite (Write e) = ⊤
IsWrite _ = ⊥

-- the call for the next record may block only without pending bytes: either the record is buffered, or there are none
abbrev pub MayBlock : {R : Type 0} (state : R → State) → PerfRecordIter R → List ℕ → Type 0
MayBlock state it pending = (pending ≡ []) ⊎ TestsNextBuffered state it true

-- the lines of records, in order, each of which `IsLine` says what it may be
pub data AreLines (IsLine : RecordView → List ℕ → Type 0) : List RecordView → List ℕ → Type 0 where
  no_lines : AreLines IsLine [] []
  next_line : (records : List RecordView) (text : List ℕ) (h : RecordView) (line : List ℕ) → AreLines IsLine records text → IsLine h line
      → AreLines IsLine (records ++ h ∷ []) (text ++ line)

module _ (IsLine : RecordView → List ℕ → Type 0) (allocates : Bool) where
  -- the lines of these records are written
  pub record WritesLines (old new : Option (List ℕ)) (records : List RecordView) : Type 0 where
    pub text : List ℕ
    pub lines : AreLines IsLine records text
    pub appends : Appends old new text

  -- the lines of these records are written, and a proper prefix of the next record's line
  pub record WrotePrefix (old new : Option (List ℕ)) (records : List RecordView) (next : RecordView) : Type 0 where
    pub text : List ℕ
    pub lines : AreLines IsLine records text
    pub line : List ℕ
    pub is_line : IsLine next line
    pub count : ℕ
    pub is_partial : count < length line
    pub appends : Appends old new (text ++ take count line)

  -- what writing the line of a record does; it isn't written if memory runs out for it, where it is allocated
  abbrev pub WritesRecord : RecordView → Option (List ℕ) → Result (Unit {0}) ListCause → Option (List ℕ) → Type 0
  WritesRecord h before (Ok x) after = (line : List ℕ) × IsLine h line × Appends before after line
  WritesRecord h before (Err (Perf e)) after = IsTrue allocates × (e ≡ Memory) × Keeps before after
  WritesRecord h before (Err (Write e)) after = (line : List ℕ) × IsLine h line × AppendsPrefix before after line
  WritesRecord h before (Err cause) after = ⊥

  module _ {R : Type 0} (state : R → State) where
    -- reading the next record fails
    abbrev pub ReadingFails : PerfRecordIter R → PerfFile → Option (List ℕ) → ListCause → Option (List ℕ) → PerfRecordIter R → PerfFile → Type 0
    ReadingFails old file before (Perf e) after new file' = ReturnsError state old file e new file' × Keeps before after
    ReadingFails old file before _ after new file' = ⊥

    -- what listing one record does: whether there is one, and its line is written; if the writer fails, a proper prefix of
    -- that line is written, and none of it if memory runs out
    abbrev pub ListsNext : PerfRecordIter R → PerfFile → Option (List ℕ) → Result Bool ListCause → Option (List ℕ) → PerfRecordIter R → PerfFile → Type 0
    ListsNext old file before (Ok true) after new file' = (h : RecordView) × ReturnsRecord state old file h new file' × WritesRecord h before (Ok tt) after
    ListsNext old file before (Ok false) after new file' = ReturnsEnd state old file new file' × Keeps before after
    ListsNext old file before (Err cause) after new file' = ReadingFails old file before cause after new file'
        ⊎ ((h : RecordView) × ReturnsRecord state old file h new file' × WritesRecord h before (Err cause) after)

  -- the calls for records of a listing of an iterator's records into a writer with pending bytes
  module _ {R W : Type 0} (state : R → State) (pending : W → List ℕ) (contents : W → Option (List ℕ)) where
    -- A call for a record, after a flush of the writer or none. If the call may block, no byte is pending.
    pub record CalledFlushed (old : PerfRecordIter R) (file : PerfFile) (before : W) (r : Result Bool ListCause) (after : W) (new : PerfRecordIter R)
        (file' : PerfFile) : Type 0 where
      pub flushed : W
      pub contents_kept : Keeps (contents before) (contents flushed)
      pub may_block : MayBlock state old (pending flushed)
      pub lists_next : ListsNext state old file (contents flushed) r (contents after) new file'

    -- this many such calls, each of which lists a record
    abbrev pub CallsFlushed : ℕ → PerfRecordIter R → PerfFile → W → W → PerfRecordIter R → PerfFile → Type 0
    CallsFlushed zero old file before after now file' = (now ≡ old) × (file' ≡ file) × (after ≡ before)
    CallsFlushed (suc count) old file before after now file' = (last : PerfRecordIter R) × (last_file : PerfFile) × (last_out : W)
        × CallsFlushed count old file before last_out last last_file × CalledFlushed last last_file last_out (Ok true) after now file'

    -- A listing calls for its records one by one. No byte is pending in a call that may block: neither in those that list a
    -- record, nor in the last, which returns the end or fails. If a flush
    -- fails, there is no last call.
    abbrev pub FlushesBeforeBlocking : PerfRecordIter R → PerfFile → W → Result ℕ ListFault → W → PerfRecordIter R → PerfFile → Type 0
    FlushesBeforeBlocking old file before (Ok lines) after new file' = (last : PerfRecordIter R) × (last_file : PerfFile) × (last_out : W)
        × CallsFlushed lines old file before last_out last last_file × CalledFlushed last last_file last_out (Ok false) after new file'
    FlushesBeforeBlocking old file before (Err error) after new file' = (last : PerfRecordIter R) × (last_file : PerfFile) × (last_out : W)
        × CallsFlushed error.lines old file before last_out last last_file
        × (CalledFlushed last last_file last_out (Err error.cause) after new file' ⊎ (IsWrite error.cause × (new ≡ last) × (file' ≡ last_file)))

  -- all records of a file are listed, and its layout is complete
  pub record ListedFile (old : State) (before after : Option (List ℕ)) (lines : ℕ) : Type 0 where
    pub records : List RecordView
    pub count : lines ≡ length records
    pub appends : WritesLines before after records
    pub complete : IfSome old.position (λ p. HoldsForFile p (λ Remaining. Remaining records ends_complete))

  -- The first records of a file are listed, and then its reading fails: it doesn't open, and no record is listed; or after
  -- these records the layout ends with an error that this one reports; or the source failed or paused.
  pub record ListedFileUntilError (old : State) (before after : Option (List ℕ)) (lines : ℕ) (e : Error) : Type 0 where
    pub records : List RecordView
    pub count : lines ≡ length records
    pub appends : WritesLines before after records
    pub source_after : State
    pub cause : ((records ≡ []) × (e ≢ Memory → IfSome old.position (λ p. IsFileError p e) ⊎ SourceErrorInOpening old e source_after))
        ⊎ (IfSome old.position (λ p. HoldsForFile p (λ Remaining. AreFirstRecords Remaining records))
        × (e ≢ Memory → IfSome old.position (λ p. HoldsForFile p (λ Remaining. (f : LayoutError) × Remaining records (ends_with_error f) × IsErrorFor f e))
        ⊎ SourceErrorInFile old e source_after))

  -- the first records of a file are listed, and a proper prefix of the next record's line is written
  pub record ListedFilePartOfNext (old : State) (before after : Option (List ℕ)) (lines : ℕ) : Type 0 where
    pub records : List RecordView
    pub next : RecordView
    pub count : lines ≡ length records
    pub wrote : WrotePrefix before after records next
    pub prefix : IfSome old.position (λ p. HoldsForFile p (λ Remaining. AreFirstRecords Remaining (records ++ next ∷ [])))

  abbrev pub FileListingFails : State → Option (List ℕ) → Option (List ℕ) → ℕ → ListCause → Type 0
  FileListingFails old before after lines (Perf e) = ListedFileUntilError old before after lines e
  FileListingFails old before after lines (Write e) = ListedFilePartOfNext old before after lines
  FileListingFails old before after lines _ = ⊥

  -- what a listing of a file does
  abbrev pub ListsFile : State → Option (List ℕ) → Result ℕ ListFault → Option (List ℕ) → Type 0
  ListsFile old before (Ok lines) after = ListedFile old before after lines
  ListsFile old before (Err error) after = FileListingFails old before after error.lines error.cause
