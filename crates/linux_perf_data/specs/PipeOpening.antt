-- The opening of a perf.data pipe: its header and the metadata records after it. Also the first error in an opening.
use Rattle.std.specs.Prelude.{◌≡◌, ◌≢◌, ◌⊎◌, ◌↔◌, ℕ, ◌+◌, ◌-◌, ◌^◌, ◌<◌, ◌≤◌, List, [], ◌∷◌, ◌++◌, length, take, drop, nat_eq, All, IsSome, Option, None, Some}
use Rattle.std.specs.List.{concat}
use Rattle.std.specs.Map.{update_all}
use Rattle.perfdata_sources.specs.Source.{State, Consumed, EndedOrPaused, SourceFailed}
use Rattle.perfdata_sources.specs.Endian.{number_in}
use Rattle.perfdata_identifiers.specs.Features.{HasFeature}
use Rattle.perfdata_identifiers.specs.declared.features.FeatureSet.{FeatureSet}
use Rattle.perfdata_sources.specs.declared.endian.Endianness.{Endianness}
use Rattle.perfdata_sections.specs.Error.{IsUnexpectedEof, IsIoError}
use Rattle.perfdata_sections.specs.EventDesc.{IsEventDescError}
use Rattle.perfdata_sections.specs.declared.error.Error.{Error}
use Rattle.perfdata_sections.specs.declared.error.Error.TheVariants.{Read, UnrecognizedMagicValue, InvalidPerfEventSize, NoAttributes, Memory}
use Rattle.perfdata_sections.specs.declared.error.ReadError.TheVariants.{PerfEventData}
use Rattle.perfdata_sections.specs.RecordTypes.{header_attr, header_feature}
use Rattle.linux_perf_data.specs.Attribute.{Attribute, Inconsistency, AreInconsistent, AreConsistent, HoldsAttribute}
use Rattle.linux_perf_data.specs.LateMetadata.{IsMetadataType, IsMetadataError, features_in_record}
use Rattle.linux_perf_data.specs.Layout.{IsRecord, StartsWithRecord, HasRecordHeader, attributes_in_records, record_type_of, record_size_of}
use Rattle.linux_perf_data.specs.FeatureNumbers.{event_desc}
use Rattle.linux_perf_data.specs.Names.{IsReadableEventDesc}
use Rattle.perfdata_base.specs.Header.{magic_of}
use Rattle.linux_perf_data.specs.Consistency.{error_of_inconsistency}

module _ (order : Endianness) where
  -- ---- the bytes of an opening

  -- A pipe header: a magic value of eight bytes, a u64 size, and the further bytes that the size counts.
  pub record IsPipeHeader (header : List ℕ) : Type 0 where
    pub magic : take 8 header ≡ magic_of order
    pub exact_len : length header ≡ 16 + (number_in order 8 (drop 8 header) - 16)

  -- A whole metadata record, with valid metadata of its type.
  pub record IsMetadataRecord (p : List ℕ) : Type 0 where
    pub is_record : IsRecord order p
    pub record_type : IsMetadataType (record_type_of order p)
    pub valid_attribute : record_type_of order p ≡ header_attr → HoldsAttribute order (drop 8 p)
    pub valid_feature : record_type_of order p ≡ header_feature → 8 ≤ length (drop 8 p)

  -- Consecutive metadata records, of less than 2^64 bytes in total.
  pub record AreMetadata (pieces : List (List ℕ)) : Type 0 where
    pub elements : All IsMetadataRecord pieces
    pub size_fits : length (concat pieces) < 2 ^ 64

  -- The features in the records, in order.
  abbrev pub features_in_records : List (List ℕ) → List (ℕ × List ℕ)
  features_in_records [] = []
  features_in_records (p ∷ ps) = features_in_record order None (record_type_of order p) (drop 8 p) ++ features_in_records ps

  -- The data of a feature, from the last record that contains the feature.
  abbrev pub feature_data_in : List (List ℕ) → ℕ → Option (List ℕ)
  feature_data_in pieces n = update_all nat_eq (λ _. None) (features_in_records pieces) n

  -- No metadata record follows: fewer than eight bytes remain, or they start with the header of another record type, whose size
  -- is valid.
  abbrev pub EndsMetadata : List ℕ → Type 0
  EndsMetadata rest = 8 ≤ length rest → (8 ≤ record_size_of order rest) × (¬ IsMetadataType (record_type_of order rest))

  -- ---- errors

  -- The bytes after `offset` bytes of metadata records have an error. Either the size in the record header is below 8; or a
  -- metadata record ends at 2^64 or later, is truncated, or contains invalid metadata.
  abbrev pub IsMetadataRecordError : ℕ → List ℕ → Error → Type 0
  IsMetadataRecordError offset rest e =
      ((e ≡ InvalidPerfEventSize) × (8 ≤ length rest) × (record_size_of order rest < 8))
      ⊎ (((e ≡ Read PerfEventData) × IsMetadataType (record_type_of order rest) × (8 ≤ length rest) × (8 ≤ record_size_of order rest)
      × (2 ^ 64 ≤ offset + record_size_of order rest))
      ⊎ ((IsUnexpectedEof e × IsMetadataType (record_type_of order rest) × HasRecordHeader order offset rest × (length rest < record_size_of order rest))
      ⊎ ((p : List ℕ) × StartsWithRecord order offset rest p × IsMetadataError order (record_type_of order p) (drop 8 p) e)))

  -- The metadata of the records has an error: there is no attribute, EVENT_DESC can't be read, or the attributes are
  -- inconsistent.
  abbrev pub IsMetadataListError : List (List ℕ) → Error → Type 0
  IsMetadataListError pieces e =
      ((e ≡ NoAttributes) × (attributes_in_records order None pieces ≡ []))
      ⊎ (((bytes : List ℕ) × (attributes_in_records order None pieces ≢ []) × (feature_data_in pieces event_desc ≡ Some bytes)
      × IsEventDescError (number_in order) e bytes)
      ⊎ ((b : Inconsistency) × ((bytes : List ℕ) → feature_data_in pieces event_desc ≡ Some bytes → IsReadableEventDesc order bytes)
      × AreInconsistent (attributes_in_records order None pieces) b × (e ≡ error_of_inconsistency b)))

  -- The metadata of the records can open a pipe. There is an attribute, EVENT_DESC is readable or absent, and the attributes are
  -- consistent.
  pub record CanOpenPipe (pieces : List (List ℕ)) : Type 0 where
    pub nonempty : attributes_in_records order None pieces ≢ []
    pub event_desc_readable : (bytes : List ℕ) → feature_data_in pieces event_desc ≡ Some bytes → IsReadableEventDesc order bytes
    pub consistent : AreConsistent (attributes_in_records order None pieces)

  -- The bytes after a pipe header have an error. It is in the next record after some metadata records or, if they end there, in
  -- their metadata.
  pub record IsMetadataReadError (rest : List ℕ) (e : Error) : Type 0 where
    pub raw_records : List (List ℕ)
    pub after_records : List ℕ
    pub split : rest ≡ concat raw_records ++ after_records
    pub elements : AreMetadata raw_records
    pub cause : IsMetadataRecordError (length (concat raw_records)) after_records e ⊎ (EndsMetadata after_records × IsMetadataListError raw_records e)

-- The bytes start with a pipe header of this byte order, and there is an error after it.
pub record IsErrorAfterPipeHeader (bytes : List ℕ) (e : Error) : Type 0 where
  pub endian : Endianness
  pub header : List ℕ
  pub rest : List ℕ
  pub split : bytes ≡ header ++ rest
  pub matches : IsPipeHeader endian header
  pub metadata_error : IsMetadataReadError endian rest e

-- The first error in opening a pipe with these bytes. Fewer than 16 bytes are an unexpected end of file. An unknown magic is
-- `UnrecognizedMagicValue`. A header truncated after its first 16 bytes is `NoAttributes`. Otherwise there is an error after the
-- header.
abbrev pub IsPipeError : List ℕ → Error → Type 0
IsPipeError bytes e =
    (IsUnexpectedEof e × (length bytes < 16))
    ⊎ (((e ≡ UnrecognizedMagicValue (take 8 bytes)) × (16 ≤ length bytes) × ((order : Endianness) → take 8 bytes ≢ magic_of order))
    ⊎ (((order : Endianness) × (e ≡ NoAttributes) × (16 ≤ length bytes) × (take 8 bytes ≡ magic_of order) × (length bytes < number_in order 8 (drop 8 bytes)))
    ⊎ IsErrorAfterPipeHeader bytes e))

-- ---- contracts of an opening

-- The cause of an error after the bytes `consumed`. Either they show the error whatever follows them; or the source ended or paused,
-- and they show it if nothing follows; or the source failed, and `e` is its I/O error.
abbrev pub IsErrorCauseFor : (List ℕ → Error → Type 0) → State → List ℕ → Error → State → Type 0
IsErrorCauseFor Stops old consumed e new =
    ((rest : List ℕ) → Stops (consumed ++ rest) e)
    ⊎ ((EndedOrPaused old new × Stops consumed e)
    ⊎ (IsIoError e × SourceFailed old new))

-- The call failed. The contract states no cause for a `Memory` error.
pub record FailsBy (Stops : List ℕ → Error → Type 0) (old : State) (e : Error) (new : State) : Type 0 where
  pub consumed_bytes : List ℕ
  pub consumes : Consumed old consumed_bytes new
  pub cause : e ≢ Memory → IsErrorCauseFor Stops old consumed_bytes e new

-- How the metadata records ended. Either the last eight bytes are the header of another record type, or fewer than eight bytes
-- were read and the source ended or paused.
abbrev pub MetadataEnded : Endianness → Option (List ℕ) → State → List ℕ → State → Type 0
MetadataEnded order (Some ending_header) old last new =
    (last ≡ ending_header) × (length ending_header ≡ 8) × (8 ≤ record_size_of order ending_header) × (¬ IsMetadataType (record_type_of order ending_header))
MetadataEnded order None old last new = (length last < 8) × EndedOrPaused old new

-- The consumed bytes are a pipe header, metadata records, and what ended them.
pub record OpeningRead (order : Endianness) (pieces : List (List ℕ)) (ending_header : Option (List ℕ)) (old new : State) : Type 0 where
  pub header : List ℕ
  pub last_bytes : List ℕ
  pub matches : IsPipeHeader order header
  pub elements : AreMetadata order pieces
  pub consumes : Consumed old (header ++ (concat pieces ++ last_bytes)) new
  pub metadata_end : MetadataEnded order ending_header old last_bytes new

-- These attributes, data of features, and features are those of the records: their attributes in order, and the last data of each
-- feature.
pub record HoldsMetadataOf (order : Endianness) (pieces : List (List ℕ)) (attrs : List Attribute) (data_of : ℕ → Option (List ℕ))
    (set : FeatureSet) : Type 0 where
  pub attributes : attrs ≡ attributes_in_records order None pieces
  pub feature_data : (n : ℕ) → data_of n ≡ feature_data_in order pieces n
  pub features : (n : ℕ) → HasFeature set n ↔ ((n < 256) × IsSome (feature_data_in order pieces n))
