-- The steps of a pipe's opening.
use Rattle.std.specs.Prelude.{◌≡◌, ◌≢◌, ◌⊎◌, ℕ, ◌+◌, ◌^◌, ◌<◌, ◌≤◌, List, [], ◌++◌, length, drop, nat_eq, Bool, true, false, Option, None, Some, Result, Ok, Err}
use Rattle.std.specs.List.{concat}
use Rattle.std.specs.Map.{update_all}
use Rattle.std.specs.IoError.{error_kind}
use Rattle.std.specs.declared.io.Error.{Error as IoErrorValue}
use Rattle.std.specs.declared.io.ErrorKind.TheVariants.{OutOfMemory}
use Rattle.perfdata_sources.specs.Source.{State, Consumed}
use Rattle.perfdata_sources.specs.Endian.{number_in}
use Rattle.perfdata_sources.specs.declared.endian.Endianness.{Endianness}
use Rattle.perfdata_sections.specs.Error.{IsUnexpectedEof}
use Rattle.perfdata_records.specs.HeaderAttr.{attribute_of}
use Rattle.perfdata_records.specs.HeaderFeature.{IsHeaderFeature}
use Rattle.perfdata_sections.specs.EventDesc.{IsEventDescError}
use Rattle.perfdata_sections.specs.declared.error.Error.{Error}
use Rattle.perfdata_sections.specs.declared.error.Error.TheVariants.{NoAttributes, Memory, IoError}
use Rattle.perfdata_records.specs.declared.user_record.HeaderAttr.{HeaderAttr}
use Rattle.perfdata_records.specs.declared.user_record.HeaderFeature.{HeaderFeature}
use Rattle.perfdata_sections.specs.RecordTypes.{header_attr, header_feature}
use Rattle.linux_perf_data.specs.Attribute.{Inconsistency, AreInconsistent, AreConsistent, HoldsAttribute, attribute_in}
use Rattle.linux_perf_data.specs.Descriptions.{described_attributes}
use Rattle.linux_perf_data.specs.LateMetadata.{AddsFeatures, IsMetadataType, IsMetadataError, features_in_record}
use Rattle.linux_perf_data.specs.Layout.{attributes_in_record, record_type_of}
use Rattle.linux_perf_data.specs.FeatureNumbers.{event_desc}
use Rattle.linux_perf_data.specs.Names.{NamedByEventDesc, IsReadableOrAbsent, IsReadableEventDesc, feature_in_body}
use Rattle.linux_perf_data.specs.steps.RecordFraming.{BytesRead}
use Rattle.linux_perf_data.specs.PipeOpening.{AreMetadata, IsMetadataRecord, IsMetadataRecordError, IsMetadataReadError, MetadataEnded, HoldsMetadataOf, FailsBy}
use Rattle.linux_perf_data.specs.steps.PipeOpening.{HoldsPipeMetadata}
use Rattle.linux_perf_data.specs.Consistency.{error_of_inconsistency}
use Rattle.linux_perf_data.specs.FeatureData.{feature_data_of}
use Rattle.perfdata_sections.specs.declared.feature_sections.AttributeDescription.{AttributeDescription}
use Rattle.linux_perf_data.specs.steps.NameTable.{NamesAttributes, IsNamesError}
use Rattle.linux_perf_data.specs.declared.attributes.names.NameTable.{NameTable}
use Rattle.linux_perf_data.specs.declared.pipe.opening.PipeOpening.{PipeOpening}
use Rattle.linux_perf_data.specs.declared.metadata_records.PipeMetadata.{PipeMetadata}
use Rattle.linux_perf_data.specs.declared.pipe.opening.NextInOpening.{NextInOpening}
use Rattle.linux_perf_data.specs.declared.pipe.opening.NextInOpening.TheVariants.{Record, End}

abbrev pub TestsMetadataType : ℕ → Bool → Type 0
TestsMetadataType kind true = IsMetadataType kind
TestsMetadataType kind false = ¬ IsMetadataType kind

-- Maps an error in parsing a record's body: one of kind `OutOfMemory` to `Memory`, any other to `IoError`.
pub record ReportsContentsError (parse_error : IoErrorValue) (e : Error) : Type 0 where
  pub if_out_of_memory : error_kind parse_error ≡ OutOfMemory → e ≡ Memory
  pub otherwise : error_kind parse_error ≢ OutOfMemory → e ≡ IoError parse_error

-- Reads a body of `count` bytes into the buffer. It fails if the body is truncated or the source fails.
abbrev pub ReadsMetadataBody : {A : Type 0} → State → ℕ → Result A Error → List ℕ → State → Type 0
ReadsMetadataBody old count (Ok _) now new = BytesRead old count now new
ReadsMetadataBody old count (Err e) now new = FailsBy (λ xs e. IsUnexpectedEof e × (length xs < count)) old e new

module _ (order : Endianness) where
  -- ---- the body of a record

  abbrev pub ParsesAttribute : List ℕ → Result HeaderAttr Error → Type 0
  ParsesAttribute body (Ok header) = HoldsAttribute order body × (attribute_of header ≡ attribute_in order body)
  ParsesAttribute body (Err e) = (e ≡ Memory → HoldsAttribute order body) × (e ≢ Memory → IsMetadataError order header_attr body e)

  abbrev pub ParsesFeature : List ℕ → Result HeaderFeature Error → Type 0
  ParsesFeature body (Ok header) = IsHeaderFeature (number_in order) body header
  ParsesFeature body (Err e) = (e ≡ Memory → 8 ≤ length body) × (e ≢ Memory → IsMetadataError order header_feature body e)

  -- The metadata of a record of this type was added to the metadata before.
  pub record RecordAdded (kind : ℕ) (body : List ℕ) (old new : PipeMetadata) : Type 0 where
    pub valid_attribute : kind ≡ header_attr → HoldsAttribute order body
    pub valid_feature : kind ≡ header_feature → 8 ≤ length body
    pub attributes : described_attributes new.attributes.items ≡ described_attributes old.attributes.items ++ attributes_in_record order None kind body
    pub feature_data : (n : ℕ) → feature_data_of new.sections n ≡ update_all nat_eq (feature_data_of old.sections) (features_in_record order None kind body) n
    pub features : AddsFeatures old.features (λ n. (kind ≡ header_feature) × (feature_in_body order body ≡ n)) new.features

  abbrev pub AddsRecord : {A : Type 0} → ℕ → List ℕ → PipeMetadata → Result A Error → PipeMetadata → Type 0
  AddsRecord kind body old (Ok _) new = RecordAdded kind body old new
  AddsRecord kind body old (Err e) new = e ≢ Memory → IsMetadataError order kind body e

  -- The metadata of these records was collected.
  abbrev pub CollectsMetadata : List (List ℕ) → PipeMetadata → Type 0
  CollectsMetadata pieces m = HoldsMetadataOf order pieces (described_attributes m.attributes.items) (feature_data_of m.sections) m.features

  -- ---- one record

  -- A metadata record was read, and its metadata was added.
  pub record NextRecordRead (offset : ℕ) (old : State) (m : PipeMetadata) (end : ℕ) (new : State) (m' : PipeMetadata) : Type 0 where
    pub raw_record : List ℕ
    pub consumes : Consumed old raw_record new
    pub matches : IsMetadataRecord order raw_record
    pub end_offset : end ≡ offset + length raw_record
    pub end_fits : end < 2 ^ 64
    pub record_added : RecordAdded (record_type_of order raw_record) (drop 8 raw_record) m m'

  -- The metadata records ended.
  pub record MetadataEndRead (old : State) (m : PipeMetadata) (ending_header : Option (List ℕ)) (new : State) (m' : PipeMetadata) : Type 0 where
    pub last_bytes : List ℕ
    pub consumes : Consumed old last_bytes new
    pub metadata_end : MetadataEnded order ending_header old last_bytes new
    pub unchanged : m' ≡ m

  abbrev pub ReadsNext : ℕ → State → PipeMetadata → Result NextInOpening Error → State → PipeMetadata → Type 0
  ReadsNext offset old m (Ok (Record end)) new m' = NextRecordRead offset old m end new m'
  ReadsNext offset old m (Ok (End ending_header)) new m' = MetadataEndRead old m ending_header new m'
  ReadsNext offset old m (Err e) new m' = FailsBy (IsMetadataRecordError order offset) old e new

  -- ---- all records

  -- These records and what ended them were read.
  pub record MetadataRead (pieces : List (List ℕ)) (ending_header : Option (List ℕ)) (old new : State) : Type 0 where
    pub last_bytes : List ℕ
    pub elements : AreMetadata order pieces
    pub consumes : Consumed old (concat pieces ++ last_bytes) new
    pub metadata_end : MetadataEnded order ending_header old last_bytes new

  abbrev pub ReadsMetadata : State → Result (PipeMetadata × Option (List ℕ)) Error → State → Type 0
  ReadsMetadata old (Ok r) new = (pieces : List (List ℕ)) × MetadataRead pieces r.1 old new × CollectsMetadata pieces r.0
  ReadsMetadata old (Err e) new = FailsBy (IsMetadataReadError order) old e new

  -- ---- their metadata

  -- Names attributes by EVENT_DESC: consistent ones, at least one. The error is the first: there is no attribute, EVENT_DESC can't be
  -- read, or the attributes are inconsistent.
  abbrev pub NamesConsistentAttributes : Option (List ℕ) → List AttributeDescription → Result NameTable Error → List AttributeDescription → Type 0
  NamesConsistentAttributes desc old (Ok t) new = (0 < length new) × AreConsistent (described_attributes new) × NamesAttributes order desc old (Ok t) new
  NamesConsistentAttributes desc old (Err e) new =
      ((e ≡ NoAttributes) × (described_attributes old ≡ []))
      ⊎ (((described_attributes old ≢ []) × IsNamesError order desc e)
      ⊎ ((b : Inconsistency) × IsReadableOrAbsent order desc × AreInconsistent (described_attributes old) b × (e ≡ error_of_inconsistency b)))

  -- An opening was built from the metadata.
  pub record OpeningFinished (m : PipeMetadata) (ending_header : Option (List ℕ)) (opening : PipeOpening) : Type 0 where
    pub endian : opening.perf_file.endian ≡ order
    pub pending_header : opening.pending_header ≡ ending_header
    pub attributes : described_attributes opening.perf_file.attributes.items ≡ described_attributes m.attributes.items
    pub sections : (n : ℕ) → feature_data_of opening.perf_file.sections n ≡ feature_data_of m.sections n
    pub features : opening.perf_file.features ≡ m.features
    pub names_match : NamedByEventDesc order (feature_data_of m.sections event_desc) opening.perf_file.attributes.items
    pub nonempty : 0 < length opening.perf_file.attributes.items
    pub consistent : AreConsistent (described_attributes m.attributes.items)

  -- The metadata has an error: there is no attribute, EVENT_DESC can't be read, or the attributes are inconsistent.
  abbrev pub IsFinishError : PipeMetadata → Error → Type 0
  IsFinishError m e =
      ((e ≡ NoAttributes) × (described_attributes m.attributes.items ≡ []))
      ⊎ (((bytes : List ℕ) × (described_attributes m.attributes.items ≢ []) × (feature_data_of m.sections event_desc ≡ Some bytes)
      × IsEventDescError (number_in order) e bytes)
      ⊎ ((b : Inconsistency) × ((bytes : List ℕ) → feature_data_of m.sections event_desc ≡ Some bytes → IsReadableEventDesc order bytes)
      × AreInconsistent (described_attributes m.attributes.items) b × (e ≡ error_of_inconsistency b)))

  abbrev pub FinishesOpening : PipeMetadata → Option (List ℕ) → Result PipeOpening Error → Type 0
  FinishesOpening m ending_header (Ok opening) = OpeningFinished m ending_header opening
  FinishesOpening m ending_header (Err e) = e ≢ Memory → IsFinishError m e

  -- Opens the rest of a pipe after its header.
  abbrev pub OpensAfterPipeHeader : State → Result PipeOpening Error → State → Type 0
  OpensAfterPipeHeader old (Ok opening) new =
      (pieces : List (List ℕ)) × MetadataRead pieces opening.pending_header old new × HoldsPipeMetadata order pieces opening
  OpensAfterPipeHeader old (Err e) new = FailsBy (IsMetadataReadError order) old e new
