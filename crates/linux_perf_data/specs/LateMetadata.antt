-- Late metadata: what a pipe's record HEADER_ATTR or HEADER_FEATURE adds to a `PerfFile` and to the attribute lookup.
use Rattle.std.specs.Prelude.{◌≡◌, ◌≢◌, ◌⊎◌, ◌↔◌, ℕ, ◌<◌, ◌≤◌, ◌==◌, List, [], ◌∷◌, ◌++◌, length, drop, nat_eq, if◌then◌else◌, None, Some, Result, Ok, Err}
use Rattle.std.specs.Map.{update_all}
use Rattle.perfdata_identifiers.specs.Features.{HasFeature}
use Rattle.perfdata_sources.specs.Endian.{number_in}
use Rattle.perfdata_sources.specs.Attr.{IsTooSmall}
use Rattle.perfdata_sources.specs.declared.endian.Endianness.{Endianness}
use Rattle.perfdata_identifiers.specs.declared.features.FeatureSet.{FeatureSet}
use Rattle.perfdata_sections.specs.Error.{IsUnexpectedEof, IsInvalidData, IsInvalidInput}
use Rattle.perfdata_sections.specs.EventDesc.{IsEventDescError}
use Rattle.perfdata_sections.specs.RecordTypes.{header_attr, header_feature}
use Rattle.perfdata_sections.specs.declared.error.Error.{Error}
use Rattle.perfdata_sections.specs.declared.error.Error.TheVariants.{Memory, Failed}
use Rattle.linux_perf_data.specs.declared.attributes.lookup.AttributeLookup.{AttributeLookup}
use Rattle.linux_perf_data.specs.declared.perf_file.PerfFile.{PerfFile}
use Rattle.linux_perf_data.specs.Attribute.{Attribute, HoldsAttribute, Inconsistency, AreInconsistent}
use Rattle.linux_perf_data.specs.AttributeLookup.{Represents}
use Rattle.linux_perf_data.specs.Layout.{SectionSize, IsTruncatedAttribute, LayoutError, ConcernsMetadata, inconsistent_attributes, RecordView, attributes_in_record, attributes_in_views}
use Rattle.linux_perf_data.specs.FeatureNumbers.{event_desc}
use Rattle.linux_perf_data.specs.Names.{NamedByEventDesc, feature_in_body, IsReadableOrAbsent}
use Rattle.linux_perf_data.specs.PerfFile.{descriptions_of_file, features_of_file, endian_of_file, feature_data_in_file, attributes_of_file}
use Rattle.linux_perf_data.specs.Consistency.{error_of_inconsistency}

-- A caller can't distinguish the two `PerfFile`s.
pub record SamePerfFile (old new : PerfFile) : Type 0 where
  pub same_endian : endian_of_file new ≡ endian_of_file old
  pub descriptions : descriptions_of_file new ≡ descriptions_of_file old
  pub features : features_of_file new ≡ features_of_file old
  pub feature_data : (n : ℕ) → feature_data_in_file new n ≡ feature_data_in_file old n

-- The types of metadata records.
abbrev pub IsMetadataType : ℕ → Type 0
IsMetadataType record_type = (record_type ≡ header_attr) ⊎ (record_type ≡ header_feature)

-- The new features are the old ones and the added ones below 256.
abbrev pub AddsFeatures : FeatureSet → (ℕ → Type 0) → FeatureSet → Type 0
AddsFeatures old Added new = (n : ℕ) → HasFeature new n ↔ (HasFeature old n ⊎ ((n < 256) × Added n))

module _ (order : Endianness) where
  -- The features of a record, with their data. A record of a file has none.
  abbrev pub features_in_record : SectionSize → ℕ → List ℕ → List (ℕ × List ℕ)
  features_in_record None record_type body = if record_type == header_feature then (feature_in_body order body, drop 8 body) ∷ [] else []
  features_in_record (Some size) record_type body = []

  -- A record of this type contains this feature.
  abbrev pub ProvidesFeature : SectionSize → ℕ → ℕ → List ℕ → Type 0
  ProvidesFeature bound n record_type body = (bound ≡ None) × (record_type ≡ header_feature) × (feature_in_body order body ≡ n)

  -- A record of this type renames all events.
  abbrev pub RenamesEvents : SectionSize → ℕ → List ℕ → Type 0
  RenamesEvents None record_type body = (record_type ≡ header_attr) ⊎ ((record_type ≡ header_feature) × (feature_in_body order body ≡ event_desc))
  RenamesEvents (Some size) record_type body = ⊥

  -- The `PerfFile` contains what it did before and the metadata of the record. The record's attribute is appended, and its
  -- feature's data replaces the data before. After a record that renames events, the current EVENT_DESC names all attributes.
  pub record UpdatesPerfFile (bound : SectionSize) (record_type : ℕ) (body : List ℕ) (old new : PerfFile) : Type 0 where
    pub same_endian : endian_of_file new ≡ endian_of_file old
    pub attributes : attributes_of_file new ≡ attributes_of_file old ++ attributes_in_record order bound record_type body
    pub feature_data : (n : ℕ) → feature_data_in_file new n ≡ update_all nat_eq (feature_data_in_file old) (features_in_record bound record_type body) n
    pub features : AddsFeatures (features_of_file old) (λ n. ProvidesFeature bound n record_type body) (features_of_file new)
    pub names_match : RenamesEvents bound record_type body → NamedByEventDesc order (feature_data_in_file new event_desc) (descriptions_of_file new)
    pub if_not_renamed : (¬ RenamesEvents bound record_type body) → descriptions_of_file new ≡ descriptions_of_file old

  -- The EVENT_DESC, if there is one, that names the events after this record.
  abbrev pub IsEventDescToApply : PerfFile → ℕ → List ℕ → List ℕ → Type 0
  IsEventDescToApply file record_type body bytes =
      ((record_type ≡ header_attr) × HoldsAttribute order body × (feature_data_in_file file event_desc ≡ Some bytes))
      ⊎ ((record_type ≡ header_feature) × (8 ≤ length body) × (feature_in_body order body ≡ event_desc) × (bytes ≡ drop 8 body))

  -- The metadata of the record is complete.
  abbrev pub HasValidMetadata : ℕ → List ℕ → Type 0
  HasValidMetadata record_type body = ((record_type ≡ header_attr) × HoldsAttribute order body) ⊎ ((record_type ≡ header_feature) × (8 ≤ length body))

  -- The metadata of the record is invalid: it is truncated, or the attribute's own size is below 64.
  abbrev pub IsMetadataError : ℕ → List ℕ → Error → Type 0
  IsMetadataError record_type body e =
      (IsUnexpectedEof e × (((record_type ≡ header_attr) × IsTruncatedAttribute order body) ⊎ ((record_type ≡ header_feature) × (length body < 8))))
      ⊎ (IsInvalidData e × (record_type ≡ header_attr) × IsTooSmall (number_in order) body)

  -- The attribute count of the `PerfFile` matches the input's.
  abbrev pub SameAttributeCount : AttributeLookup → PerfFile → Type 0
  SameAttributeCount lookup file = (attrs : List Attribute) → Represents order lookup attrs → length (descriptions_of_file file) ≡ length attrs

  -- The cause of the error of a metadata record. Either the attribute count of the `PerfFile` differs from the input's, or the
  -- count matches and one of these holds: the metadata is invalid, the EVENT_DESC that names the events can't be read, or it can
  -- and the attributes are inconsistent.
  abbrev pub RejectsMetadata : AttributeLookup → PerfFile → ℕ → List ℕ → Error → Type 0
  RejectsMetadata lookup file record_type body e =
      (IsInvalidInput e × ((attrs : List Attribute) → Represents order lookup attrs → length (descriptions_of_file file) ≢ length attrs))
      ⊎ (SameAttributeCount lookup file × (IsMetadataError record_type body e
      ⊎ (((bytes : List ℕ) × IsEventDescToApply file record_type body bytes × IsEventDescError (number_in order) e bytes)
      ⊎ ((b : Inconsistency) × (record_type ≡ header_attr) × HoldsAttribute order body × IsReadableOrAbsent order (feature_data_in_file file event_desc)
      × (e ≡ error_of_inconsistency b)
      × ((attrs : List Attribute) → Represents order lookup attrs → AreInconsistent (attrs ++ attributes_in_record order None record_type body) b)))))

  -- The checks that precede a layout error in a whole metadata record. The attribute count of the `PerfFile` matches the input's.
  -- Before an inconsistency, the EVENT_DESC of the `PerfFile` is readable or absent.
  abbrev pub PassesEarlierChecks : AttributeLookup → PerfFile → LayoutError → Type 0
  PassesEarlierChecks lookup file f = ConcernsMetadata f
      → SameAttributeCount lookup file × ((b : Inconsistency) → f ≡ inconsistent_attributes b → IsReadableOrAbsent order (feature_data_in_file file event_desc))

  -- The metadata of a pipe's record was applied.
  pub record MetadataApplied (lookup : AttributeLookup) (file : PerfFile) (record_type : ℕ) (body : List ℕ) (lookup' : AttributeLookup)
      (file' : PerfFile) : Type 0 where
    pub same_attribute_count : IsMetadataType record_type → SameAttributeCount lookup file
    pub valid_attribute : record_type ≡ header_attr → HoldsAttribute order body
    pub valid_feature : record_type ≡ header_feature → 8 ≤ length body
    pub represents : (attrs : List Attribute) → Represents order lookup attrs
        → Represents order lookup' (attrs ++ attributes_in_record order None record_type body)
    pub file_updates : UpdatesPerfFile None record_type body file file'

  -- It wasn't applied, and the contents of the `PerfFile` are unchanged.
  pub record MetadataRejected (lookup : AttributeLookup) (file : PerfFile) (record_type : ℕ) (body : List ℕ) (e : Error) (file' : PerfFile) : Type 0 where
    pub same_file : SamePerfFile file file'
    pub metadata_type : IsMetadataType record_type
    pub not_failed : e ≢ Failed
    pub if_out_of_memory : e ≡ Memory → SameAttributeCount lookup file × HasValidMetadata record_type body
    pub cause : e ≢ Memory → RejectsMetadata lookup file record_type body e

  -- Applies the metadata of a pipe's record.
  abbrev pub AppliesMetadata : {A : Type 0} → AttributeLookup → PerfFile → ℕ → List ℕ → Result A Error → AttributeLookup → PerfFile → Type 0
  AppliesMetadata lookup file record_type body (Ok _) lookup' file' = MetadataApplied lookup file record_type body lookup' file'
  AppliesMetadata lookup file record_type body (Err e) lookup' file' = MetadataRejected lookup file record_type body e file'

  -- ---- several records

  -- The features of the records, in order.
  abbrev pub features_in_views : SectionSize → List RecordView → List (ℕ × List ℕ)
  features_in_views bound [] = []
  features_in_views bound (h ∷ hs) = features_in_record bound h.record_type h.body ++ features_in_views bound hs

  -- One of the records contains this feature.
  abbrev pub SomeProvideFeature : SectionSize → ℕ → List RecordView → Type 0
  SomeProvideFeature bound n [] = ⊥
  SomeProvideFeature bound n (h ∷ hs) = ProvidesFeature bound n h.record_type h.body ⊎ SomeProvideFeature bound n hs

  -- The `PerfFile` contains what it did before and the metadata of these records. Their attributes are appended in order, and
  -- each feature has its last data. If the EVENT_DESC named the attributes before, it still does.
  pub record AccumulatesMetadata (bound : SectionSize) (records : List RecordView) (old new : PerfFile) : Type 0 where
    pub same_endian : endian_of_file new ≡ endian_of_file old
    pub attributes : attributes_of_file new ≡ attributes_of_file old ++ attributes_in_views order bound records
    pub feature_data : (n : ℕ) → feature_data_in_file new n ≡ update_all nat_eq (feature_data_in_file old) (features_in_views bound records) n
    pub features : AddsFeatures (features_of_file old) (λ n. SomeProvideFeature bound n records) (features_of_file new)
    pub names_match : NamedByEventDesc order (feature_data_in_file old event_desc) (descriptions_of_file old)
        → NamedByEventDesc order (feature_data_in_file new event_desc) (descriptions_of_file new)

-- Applying records one by one accumulates their metadata.
abbrev pub AccumulatesNone : Type 0
AccumulatesNone = (order : Endianness) (bound : SectionSize) (file : PerfFile) → AccumulatesMetadata order bound [] file file

abbrev pub AccumulatesOneMore : Type 0
AccumulatesOneMore = (order : Endianness) (bound : SectionSize) (records : List RecordView) (h : RecordView) (old now new : PerfFile) →
    AccumulatesMetadata order bound records old now → UpdatesPerfFile order bound h.record_type h.body now new
    → AccumulatesMetadata order bound (records ++ h ∷ []) old new

-- An EVENT_DESC that is readable or absent stays so after a record is applied.
abbrev pub EventDescStaysValid : Type 0
EventDescStaysValid = (order : Endianness) (bound : SectionSize) (record_type : ℕ) (body : List ℕ) (old new : PerfFile) →
    IsReadableOrAbsent order (feature_data_in_file old event_desc) → UpdatesPerfFile order bound record_type body old new
    → IsReadableOrAbsent order (feature_data_in_file new event_desc)
