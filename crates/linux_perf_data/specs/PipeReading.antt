-- Reading a pipe from start to end: the opening, the records that calls return after it, and what ends them.
use Rattle.std.specs.Prelude.{◌≡◌, ◌≢◌, ◌⊎◌, ◌↔◌, ℕ, ◌<◌, List, [], ◌++◌, drop, nat_eq, IsSome, IsTrue, Option, None, Some, IfSome}
use Rattle.std.specs.List.{concat}
use Rattle.std.specs.Map.{update_all}
use Rattle.perfdata_sources.specs.Source.{State, SourcePaused}
use Rattle.perfdata_identifiers.specs.Features.{HasFeature}
use Rattle.perfdata_sources.specs.declared.endian.Endianness.{Endianness}
use Rattle.perfdata_sections.specs.declared.error.Error.{Error}
use Rattle.perfdata_sections.specs.declared.error.Error.TheVariants.{Memory}
use Rattle.linux_perf_data.specs.declared.records.iter.PerfRecordIter.{PerfRecordIter}
use Rattle.linux_perf_data.specs.declared.records.iter.Stage.TheVariants.{Running, Ended}
use Rattle.linux_perf_data.specs.declared.perf_file.PerfFile.{PerfFile}
use Rattle.linux_perf_data.specs.Iter.{iter_source_state, ReturnsEnd, ReturnsError}
use Rattle.linux_perf_data.specs.LateMetadata.{features_in_views, SomeProvideFeature, SamePerfFile}
use Rattle.linux_perf_data.specs.Layout.{RecordView, LayoutEnd, ends_complete, ends_with_error, LayoutError, RemainingRecords, attributes_in_records, attributes_in_views}
use Rattle.linux_perf_data.specs.FeatureNumbers.{event_desc}
use Rattle.linux_perf_data.specs.Names.{NamedByEventDesc}
use Rattle.linux_perf_data.specs.OpenedPipe.{PipeParsed}
use Rattle.linux_perf_data.specs.PerfFile.{descriptions_of_file, features_of_file, endian_of_file, feature_data_in_file, attributes_of_file}
use Rattle.linux_perf_data.specs.RecordFraming.{IsErrorFor}
use Rattle.linux_perf_data.specs.PipeOpening.{IsPipeHeader, AreMetadata, CanOpenPipe, EndsMetadata, IsPipeError, OpeningRead, feature_data_in}
use Rattle.linux_perf_data.specs.Reading.{AreFirstRecords, ReturnsRecords, SourceErrorInCall, end_after}

module _ (order : Endianness) (raw_records : List (List ℕ)) where
  -- The bytes start with a pipe header and these metadata records, and `rest` follows them.
  pub record BeginsPipe (bytes rest : List ℕ) : Type 0 where
    pub header : List ℕ
    pub split : bytes ≡ header ++ (concat raw_records ++ rest)
    pub matches : IsPipeHeader order header
    pub elements : AreMetadata order raw_records

  -- These are all metadata records of the source's opening, and they can open a pipe. After them, the source returned the header
  -- of another record type, or fewer bytes than a header has, and then ended or paused.
  pub record OpensWith (old : State) (header : Option (List ℕ)) : Type 0 where
    pub final_state : State
    pub opening_read : OpeningRead order raw_records header old final_state
    pub can_open : CanOpenPipe order raw_records

  -- The bytes start with the pipe header and these records, and `P` holds for the records of the rest.
  abbrev pub HoldsForPipeRest : List ℕ → ((List RecordView → LayoutEnd → Type 0) → Type 0) → Type 0
  HoldsForPipeRest bytes P = (rest : List ℕ) × BeginsPipe bytes rest × P (RemainingRecords order rest None 0 0 (attributes_in_records order None raw_records))

  -- The same, and no metadata record follows them.
  abbrev pub HoldsForPipe : List ℕ → ((List RecordView → LayoutEnd → Type 0) → Type 0) → Type 0
  HoldsForPipe bytes P = (rest : List ℕ) × BeginsPipe bytes rest × EndsMetadata order rest
      × P (RemainingRecords order rest None 0 0 (attributes_in_records order None raw_records))

  -- The layout of the rest is complete, with these records.
  abbrev pub IsCompletePipe : List RecordView → List ℕ → Type 0
  IsCompletePipe records bytes = HoldsForPipe bytes (λ AreRemaining. AreRemaining records ends_complete)

  -- The `PerfFile` contains exactly the metadata that was read: the attributes of the opening and of the records, in order, named
  -- by the last EVENT_DESC, and the last data of each feature.
  pub record HoldsAllMetadata (records : List RecordView) (file : PerfFile) : Type 0 where
    pub file_endian : endian_of_file file ≡ order
    pub attributes : attributes_of_file file ≡ attributes_in_records order None raw_records ++ attributes_in_views order None records
    pub feature_data : (n : ℕ) → feature_data_in_file file n ≡ update_all nat_eq (feature_data_in order raw_records) (features_in_views order None records) n
    pub features : (n : ℕ) → HasFeature (features_of_file file) n
        ↔ (((n < 256) × IsSome (feature_data_in order raw_records n)) ⊎ ((n < 256) × SomeProvideFeature order None n records))
    pub names_match : NamedByEventDesc order (feature_data_in_file file event_desc) (descriptions_of_file file)

-- If a source opens this way and the header of another record follows, no error of an opening holds for its bytes.
abbrev pub OpeningHasNoError : Type 0
OpeningHasNoError = (order : Endianness) (raw_records : List (List ℕ)) (header : List ℕ) (old : State) → OpensWith order raw_records old (Some header)
    → IfSome old.bytes (λ bytes. (e : Error) → ¬ IsPipeError bytes e)

-- Then the metadata records are also unique: they are those after which no metadata record follows.
abbrev pub LongestRun : Type 0
LongestRun = (order : Endianness) (raw_records longest : List (List ℕ)) (header rest : List ℕ) (old : State)
    (o : OpensWith order raw_records old (Some header)) → AreMetadata order longest → EndsMetadata order rest
    → old.bytes ≡ Some (o.opening_read.header ++ (concat longest ++ rest)) → raw_records ≡ longest

-- The returned records are the first of the pipe, and its `PerfFile` contains exactly the metadata read so far. All bytes after
-- the last returned record are unread. Before the first record, all bytes after its header are.
pub record PipePartlyRead (order : Endianness) (bytes : List ℕ) (records : List RecordView) (file : PerfFile) (unread : Option (List ℕ)) : Type 0 where
  pub raw_records : List (List ℕ)
  pub rest : List ℕ
  pub pipe_prefix : BeginsPipe order raw_records bytes rest
  pub metadata_ends : EndsMetadata order rest
  pub first_records : AreFirstRecords (RemainingRecords order rest None 0 0 (attributes_in_records order None raw_records)) records
  pub all_metadata : HoldsAllMetadata order raw_records records file
  pub remaining_if_none : records ≡ [] → unread ≡ Some (drop 8 rest)
  pub remaining : records ≢ [] → unread ≡ Some (drop (end_after 0 records) rest)

-- These are all records of the pipe. Its layout is complete, its `PerfFile` contains exactly the metadata that was read, and no
-- byte is unread.
pub record PipeRead (order : Endianness) (bytes : List ℕ) (records : List RecordView) (file : PerfFile) (unread : Option (List ℕ)) : Type 0 where
  pub raw_records : List (List ℕ)
  pub all_records : IsCompletePipe order raw_records records bytes
  pub all_metadata : HoldsAllMetadata order raw_records records file
  pub remaining : unread ≡ Some []

-- These are the first records of the pipe, and its `PerfFile` contains exactly the metadata read so far.
pub record PipeReadToPause (order : Endianness) (bytes : List ℕ) (records : List RecordView) (file : PerfFile) : Type 0 where
  pub raw_records : List (List ℕ)
  pub first_records : HoldsForPipeRest order raw_records bytes (λ AreRemaining. AreFirstRecords AreRemaining records)
  pub all_metadata : HoldsAllMetadata order raw_records records file

-- These are all records of the pipe before its layout error, and `e` reports that error. Its `PerfFile` contains exactly the
-- metadata that was read.
pub record PipeReadToError (order : Endianness) (bytes : List ℕ) (records : List RecordView) (file : PerfFile) (e : Error) : Type 0 where
  pub raw_records : List (List ℕ)
  pub all_records : HoldsForPipe order raw_records bytes (λ AreRemaining. (f : LayoutError) × AreRemaining records (ends_with_error f) × IsErrorFor f e)
  pub all_metadata : HoldsAllMetadata order raw_records records file

module _ {R : Type 0} (state : R → State) where
  -- Reading a pipe up to any of its records.
  abbrev pub ReadingPipePartly : Type 0
  ReadingPipePartly = (old : State) (bytes : List ℕ) (file file' : PerfFile) (it now : PerfRecordIter R) (records : List RecordView) →
      old.bytes ≡ Some bytes → PipeParsed state old file it → it.stage ≡ Running → ReturnsRecords state it file records now file'
      → PipePartlyRead it.endian bytes records file' (state now.source).bytes

  -- The source paused before its end: in the opening, which then read no pending header, or in the last call. An infallible source
  -- doesn't pause.
  pub record PausesBeforeEnd (old : State) (it now new : PerfRecordIter R) : Type 0 where
    pub not_steady : ¬ IsTrue old.steady
    pub bytes_remain : (state new.source).bytes ≢ Some []
    pub paused : ((it.stage ≡ Ended) × SourcePaused old (state it.source))
        ⊎ ((it.stage ≡ Running) × SourcePaused (iter_source_state state now) (iter_source_state state new))

  -- Reading a pipe up to its end, or up to a pause of the source.
  abbrev pub ReadingPipeToEnd : Type 0
  ReadingPipeToEnd = (old : State) (bytes : List ℕ) (file now_file file' : PerfFile) (it now new : PerfRecordIter R) (records : List RecordView) →
      old.bytes ≡ Some bytes → PipeParsed state old file it → ReturnsRecords state it file records now now_file → ReturnsEnd state now now_file new file'
      → PipeRead it.endian bytes records file' (state new.source).bytes ⊎ (PipeReadToPause it.endian bytes records file' × PausesBeforeEnd old it now new)

  -- Reading a pipe up to an error other than `Memory`.
  abbrev pub ReadingPipeToError : Type 0
  ReadingPipeToError = (old : State) (bytes : List ℕ) (file now_file file' : PerfFile) (it now new : PerfRecordIter R) (records : List RecordView) (e : Error) →
      old.bytes ≡ Some bytes → PipeParsed state old file it → ReturnsRecords state it file records now now_file → ReturnsError state now now_file e new file'
      → e ≢ Memory
      → (PipeReadToError it.endian bytes records now_file e
      ⊎ (PipePartlyRead it.endian bytes records now_file (state now.source).bytes × SourceErrorInCall state old now e new)) × SamePerfFile now_file file'
