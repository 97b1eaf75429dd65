-- Steps of private functions: the opening of a file whose recording wasn't finished, or whose end is missing.
use Rattle.std.specs.Prelude.{◌≡◌, ◌≢◌, ◌↔◌, ℕ, ◌+◌, ◌*◌, ◌<◌, ◌≤◌, ◌⊎◌, ◌-◌, ◌++◌, Bool, cond, List, [], ◌∷◌, length, take, drop, filter, nat_le, Some, IsSome, Result, Ok, Err, IfSome, Vec}
use Rattle.std.specs.declared.alloc.Global.{Global}
use Rattle.indexmap.specs.IndexMap.{IndexMap}
use Rattle.perfdata_sources.specs.Source.{State, Position, AfterSeek, Consumed, EndedOrPaused, SourceFailed, all_bytes_of, at_offset}
use Rattle.perfdata_identifiers.specs.Features.{HasFeature}
use Rattle.perfdata_sources.specs.declared.endian.Endianness.{Endianness}
use Rattle.perfdata_identifiers.specs.declared.features.Feature.{Feature}
use Rattle.perfdata_identifiers.specs.declared.features.FeatureSet.{FeatureSet}
use Rattle.perfdata_base.specs.declared.header.PerfHeader.{PerfHeader}
use Rattle.perfdata_base.specs.declared.section.PerfFileSection.{PerfFileSection}
use Rattle.perfdata_sections.specs.Error.{IsIoError, IsUnexpectedEof}
use Rattle.perfdata_sections.specs.declared.error.Error.{Error}
use Rattle.perfdata_sections.specs.declared.error.Error.TheVariants.{Memory}
use Rattle.linux_perf_data.specs.Attribute.{AreConsistent}
use Rattle.linux_perf_data.specs.Descriptions.{described_attributes}
use Rattle.linux_perf_data.specs.FeatureData.{FeatureEntry, feature_entries_in, feature_data_by, feature_data_of}
use Rattle.linux_perf_data.specs.FileOpening.{SourceErrorInOpening, IsFileHeader}
use Rattle.linux_perf_data.specs.NamedErrors.{IsFileOpeningError}
use Rattle.linux_perf_data.specs.steps.FeatureData.{SourceErrorInBytes, feature_entries_of}
use Rattle.linux_perf_data.specs.UnfinishedFile.{IsVisibleLength, IsWholeRecord, IsPartialRecord, HasInvalidSize, IsRecordsSize, IsDataSize, whole_sections, DescribesWhole, IsWholeError, IsUnfinishedFileError}
use Rattle.linux_perf_data.specs.declared.file.opening.FileOpening.{FileOpening}
use Rattle.linux_perf_data.specs.declared.file.unfinished.RecordStep.{RecordStep}
use Rattle.linux_perf_data.specs.declared.file.unfinished.RecordStep.TheVariants.{Partial, Invalid, Whole}

-- The source has this many bytes, if its bytes are known.
abbrev pub HasLength : ℕ → State → Type 0
HasLength len s = IfSome (all_bytes_of s.position) (λ all. len ≤ length all)

-- The length that the source shows.
abbrev pub ReadsLength : State → Result ℕ Error → State → Type 0
ReadsLength old (Ok len) new = AfterSeek old new × IfSome (all_bytes_of old.position) (λ all. IsVisibleLength old.steady all len)
ReadsLength old (Err e) new = AfterSeek old new × IsIoError e × SourceFailed old new

-- Reads the eight bytes at the offset `at`.
abbrev pub ReadsWord : ℕ → State → Result (List ℕ) Error → State → Type 0
ReadsWord at old (Ok bytes) new = AfterSeek old new × (length bytes ≡ 8) × IfSome (all_bytes_of old.position) (λ all. bytes ≡ take 8 (drop at all))
ReadsWord at old (Err e) new = AfterSeek old new × (HasLength (at + 8) old → SourceErrorInBytes old e new)

-- What these bytes start with.
abbrev pub IsRecordStep : Endianness → List ℕ → RecordStep → Type 0
IsRecordStep order rest Partial = IsPartialRecord order rest
IsRecordStep order rest Invalid = HasInvalidSize order rest
IsRecordStep order rest (Whole n) = (n ≤ length rest) × IsWholeRecord order (take n rest) × (length (take n rest) ≡ n)

-- What is at the offset `at` of the first `len` bytes.
abbrev pub ReadsStep : Endianness → ℕ → ℕ → State → Result RecordStep Error → State → Type 0
ReadsStep order at len old (Ok step) new = AfterSeek old new × IfSome (all_bytes_of old.position) (λ all. IsRecordStep order (drop at (take len all)) step)
    × ((n : ℕ) → step ≡ Whole n → (8 ≤ n) × (at + n ≤ len))
ReadsStep order at len old (Err e) new = AfterSeek old new × SourceErrorInBytes old e new

abbrev pub ReadsRecordsSize : Endianness → ℕ → ℕ → State → Result ℕ Error → State → Type 0
ReadsRecordsSize order start len old (Ok size) new =
    AfterSeek old new × IfSome (all_bytes_of old.position) (λ all. IsRecordsSize order (drop start (take len all)) size)
ReadsRecordsSize order start len old (Err e) new = AfterSeek old new × SourceErrorInBytes old e new

abbrev pub ReadsDataSize : Endianness → PerfHeader → ℕ → State → Result ℕ Error → State → Type 0
ReadsDataSize order h len old (Ok size) new = AfterSeek old new × IfSome (all_bytes_of old.position) (λ all. IsDataSize order h all len size)
ReadsDataSize order h len old (Err e) new = AfterSeek old new × SourceErrorInBytes old e new

-- The first `count` entries of a table of these features were read, or all if they are fewer. Those remain whose section is in the
-- first `len` bytes.
pub record WholeEntriesRead (order : Endianness) (features : List ℕ) (count len : ℕ) (old : State) (es : List FeatureEntry) (new : State) : Type 0 where
  pub bytes : List ℕ
  pub exact_len : length bytes ≡ 16 * length (take count features)
  pub consumes : Consumed old bytes new
  pub matches : es ≡ filter (λ e. nat_le e.1.size (len - e.1.offset)) (feature_entries_in order bytes (take count features))

-- A part of these entries was read. The contract states no cause for a `Memory` error.
pub record WholeEntriesError (features : List ℕ) (count : ℕ) (old : State) (e : Error) (new : State) : Type 0 where
  pub bytes : List ℕ
  pub consumes : Consumed old bytes new
  pub cause : e ≢ Memory → (length bytes < 16 * length (take count features))
      × ((IsUnexpectedEof e × EndedOrPaused old new) ⊎ (IsIoError e × SourceFailed old new))

abbrev pub ReadsWholeEntries : Endianness → List ℕ → ℕ → ℕ → State → Result (Vec (Feature × PerfFileSection) Global) Error → State → Type 0
ReadsWholeEntries order features count len old (Ok v) new = WholeEntriesRead order features count len old (feature_entries_of v.items) new
ReadsWholeEntries order features count len old (Err e) new = WholeEntriesError features count old e new

-- Pushes the entry if its section is in the first `len` bytes. The error is `Memory`.
abbrev pub PushesWholeEntry : {A : Type 0} → ℕ → Feature → PerfFileSection → List (Feature × PerfFileSection) → Result A Error
    → List (Feature × PerfFileSection) → Type 0
PushesWholeEntry len f s old (Ok done) new = new ≡ old ++ cond (nat_le s.size (len - s.offset)) ((f, s) ∷ []) []
PushesWholeEntry len f s old (Err e) new = e ≡ Memory

-- The set contains the features of these entries.
abbrev pub ContainsFeatures : List FeatureEntry → FeatureSet → Type 0
ContainsFeatures es set = (all : List ℕ) (n : ℕ) → HasFeature set n ↔ ((n < 256) × IsSome (feature_data_by all es n))

-- Reads the table entries of the sections that are complete. If all bytes are known, it fails with the source error. The contract
-- states no cause for a `Memory` error.
abbrev pub ReadsWholeTable : Endianness → PerfHeader → ℕ → State → Result (Vec (Feature × PerfFileSection) Global) Error → State → Type 0
ReadsWholeTable order h len old (Ok v) new = AfterSeek old new
    × IfSome (all_bytes_of old.position) (λ all. feature_entries_of v.items ≡ whole_sections order h all len)
ReadsWholeTable order h len old (Err e) new =
    AfterSeek old new × IsFileOpeningError e × (e ≢ Memory → IfSome (all_bytes_of old.position) (λ all. SourceErrorInBytes old e new))

-- Reads the sections that are complete. If all bytes are known, it fails with the source error. The contract states no cause for a
-- `Memory` error.
abbrev pub ReadsWholeSections : {S : Type 0} → Endianness → PerfHeader → ℕ → State
    → Result (FeatureSet × IndexMap Feature (Vec ℕ Global) S) Error → State → Type 0
ReadsWholeSections order h len old (Ok r) new = AfterSeek old new
    × IfSome (all_bytes_of old.position) (λ all. ContainsFeatures (whole_sections order h all len) r.0
    × ((n : ℕ) → feature_data_of r.1 n ≡ feature_data_by all (whole_sections order h all len) n))
ReadsWholeSections order h len old (Err e) new =
    AfterSeek old new × IsFileOpeningError e × (e ≢ Memory → IfSome (all_bytes_of old.position) (λ all. SourceErrorInBytes old e new))

-- The file was opened after its header and its length. It has consistent attributes, at least one, and the source is at the first
-- record.
pub record UnfinishedOpened (order : Endianness) (h : PerfHeader) (len : ℕ) (old : State) (opening : FileOpening) (new : State) : Type 0 where
  pub endian : opening.perf_file.endian ≡ order
  pub nonempty : 0 < length opening.perf_file.attributes.items
  pub consistent : AreConsistent (described_attributes opening.perf_file.attributes.items)
  pub after_seek : AfterSeek old new
  pub position : new.position ≡ at_offset h.data_section.offset old.position
  pub data_size : IfSome (all_bytes_of old.position) (λ all. IsDataSize order h all len opening.data_size)
  pub sections : IfSome (all_bytes_of old.position) (λ all. ContainsFeatures (whole_sections order h all len) opening.perf_file.features
      × ((n : ℕ) → feature_data_of opening.perf_file.sections n ≡ feature_data_by all (whole_sections order h all len) n))
  pub attributes : IfSome (all_bytes_of old.position) (λ all. DescribesWhole order h all len opening.perf_file.attributes.items)

pub record UnfinishedOpenError (order : Endianness) (h : PerfHeader) (len : ℕ) (old : State) (e : Error) (new : State) : Type 0 where
  pub after_seek : AfterSeek old new
  pub named_error : IsFileOpeningError e
  pub cause : e ≢ Memory → IfSome (all_bytes_of old.position) (λ all. IsWholeError order h all len e) ⊎ SourceErrorInOpening old e new

abbrev pub OpensUnfinishedAfterHeader : Endianness → PerfHeader → ℕ → State → Result FileOpening Error → State → Type 0
OpensUnfinishedAfterHeader order h len old (Ok opening) new = UnfinishedOpened order h len old opening new
OpensUnfinishedAfterHeader order h len old (Err e) new = UnfinishedOpenError order h len old e new

-- The file at position `p` was opened, and the source is at the first record.
pub record UnfinishedOpenedAt (steady : Bool) (p : Position) (opening : FileOpening) (new : State) : Type 0 where
  pub header : PerfHeader
  pub len : ℕ
  pub matches : IsFileHeader p opening.perf_file.endian header
  pub visible : IsVisibleLength steady p.all_bytes len
  pub data_size : IsDataSize opening.perf_file.endian header p.all_bytes len opening.data_size
  pub features : ContainsFeatures (whole_sections opening.perf_file.endian header p.all_bytes len) opening.perf_file.features
  pub sections : (n : ℕ) → feature_data_of opening.perf_file.sections n
      ≡ feature_data_by p.all_bytes (whole_sections opening.perf_file.endian header p.all_bytes len) n
  pub attributes : DescribesWhole opening.perf_file.endian header p.all_bytes len opening.perf_file.attributes.items
  pub position : new.position ≡ Some (record { all_bytes = p.all_bytes; offset = header.data_section.offset })

pub record UnfinishedFileOpened (old : State) (opening : FileOpening) (new : State) : Type 0 where
  pub nonempty : 0 < length opening.perf_file.attributes.items
  pub consistent : AreConsistent (described_attributes opening.perf_file.attributes.items)
  pub after_seek : AfterSeek old new
  pub file_opened : IfSome old.position (λ p. UnfinishedOpenedAt old.steady p opening new)

pub record UnfinishedFileOpenError (old : State) (e : Error) (new : State) : Type 0 where
  pub after_seek : AfterSeek old new
  pub named_error : IsFileOpeningError e
  pub cause : e ≢ Memory → IfSome old.position (λ p. IsUnfinishedFileError old.steady p e) ⊎ SourceErrorInOpening old e new

abbrev pub OpensUnfinishedFile : State → Result FileOpening Error → State → Type 0
OpensUnfinishedFile old (Ok opening) new = UnfinishedFileOpened old opening new
OpensUnfinishedFile old (Err e) new = UnfinishedFileOpenError old e new
