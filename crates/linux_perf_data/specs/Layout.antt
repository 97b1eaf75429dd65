-- The layout of records in a list of bytes: in the data section of a file, and in a pipe (Linux's perf.data format).
use Rattle.std.specs.Prelude.{◌≡◌, ◌≢◌, ◌⊎◌, ℕ, ◌+◌, ◌^◌, ◌<◌, ◌≤◌, ◌==◌, List, [], ◌∷◌, ◌++◌, length, drop, All, if◌then◌else◌, Option, None, Some}
use Rattle.std.specs.List.{concat}
use Rattle.perfdata_sources.specs.Endian.{number_in}
use Rattle.perfdata_sources.specs.declared.endian.Endianness.{Endianness}
use Rattle.perfdata_sources.specs.Attr.{IsTruncatedAttr, IsTooSmall}
use Rattle.perfdata_records.specs.HeaderAttr.{HasTruncatedId}
use Rattle.perfdata_sections.specs.RecordTypes.{header_attr, finished_round, auxtrace, header_feature, compressed_type, compressed2_type}
use Rattle.linux_perf_data.specs.FeatureNumbers.{event_desc}
use Rattle.linux_perf_data.specs.Names.{IsReadableEventDesc, feature_in_body}
use Rattle.linux_perf_data.specs.Attribute.{Attribute, EventRef, AreConsistent, Inconsistency, AreInconsistent, HoldsAttribute, attribute_in, event_of, event_time}

-- The size of the section that contains the records; `None` in a pipe, whose records may contain metadata.
abbrev pub SectionSize : Type 0
SectionSize = Option ℕ

-- A record may start at this offset.
abbrev pub MayStartAt : SectionSize → ℕ → Type 0
MayStartAt None offset = Unit {0}
MayStartAt (Some size) offset = offset < size

-- The types of compressed records.
abbrev pub IsCompressed : ℕ → Type 0
IsCompressed kind = (kind ≡ compressed_type) ⊎ (kind ≡ compressed2_type)

-- How the metadata in a pipe's record is invalid: it is truncated, or its attribute's own size is below 64.
pub data MetadataError : Type 0 where
  truncated_metadata : MetadataError
  attr_size_too_small : MetadataError

-- The errors of a layout.
pub data LayoutError : Type 0 where
  truncated_header : LayoutError
  size_below_header : LayoutError
  end_overflows : LayoutError
  truncated_body : LayoutError
  compressed_record : LayoutError
  aux_body_too_short : LayoutError
  aux_end_overflows : LayoutError
  truncated_aux_data : LayoutError
  invalid_metadata : MetadataError → LayoutError
  -- The EVENT_DESC, with its byte order, that can't be read.
  invalid_event_desc : Endianness → List ℕ → LayoutError
  inconsistent_attributes : Inconsistency → LayoutError

-- The error is that of a whole metadata record.
abbrev pub ConcernsMetadata : LayoutError → Type 0
ConcernsMetadata truncated_header = ⊥
ConcernsMetadata size_below_header = ⊥
ConcernsMetadata end_overflows = ⊥
ConcernsMetadata truncated_body = ⊥
ConcernsMetadata compressed_record = ⊥
ConcernsMetadata aux_body_too_short = ⊥
ConcernsMetadata aux_end_overflows = ⊥
ConcernsMetadata truncated_aux_data = ⊥
ConcernsMetadata (invalid_metadata cause) = Unit {0}
ConcernsMetadata (invalid_event_desc order bytes) = Unit {0}
ConcernsMetadata (inconsistent_attributes b) = Unit {0}

-- How a layout ends.
pub data LayoutEnd : Type 0 where
  ends_complete : LayoutEnd
  ends_with_error : LayoutError → LayoutEnd

-- All raw records but the last.
abbrev pub all_but_last : List (List ℕ) → List (List ℕ)
all_but_last [] = []
all_but_last (p ∷ []) = []
all_but_last (p ∷ q ∷ ps) = p ∷ all_but_last (q ∷ ps)

-- A record as a caller sees it. A kernel record has an attribute, and a timestamp if the records of that attribute have one.
pub record RecordView : Type 0 where
  pub offset : ℕ
  pub round : ℕ
  pub record_type : ℕ
  pub misc : ℕ
  pub endian : Endianness
  pub body : List ℕ
  pub event : Option EventRef
  pub timestamp : Option ℕ

module _ (order : Endianness) where
  -- The fields of a record header: the type, the misc flags, and the size, which includes the header.
  abbrev pub record_type_of : List ℕ → ℕ
  record_type_of p = number_in order 4 p

  abbrev pub misc_of : List ℕ → ℕ
  misc_of p = number_in order 2 (drop 4 p)

  abbrev pub record_size_of : List ℕ → ℕ
  record_size_of p = number_in order 2 (drop 6 p)

  -- The size of the aux data after a record of type 71. It is the first u64 field of the body, and the size in the record header
  -- doesn't include it.
  abbrev pub aux_size_of : List ℕ → ℕ
  aux_size_of p = number_in order 8 (drop 8 p)

  -- The total size of a record, including its aux data.
  abbrev pub total_size_of : List ℕ → ℕ
  total_size_of p = if record_type_of p == auxtrace then record_size_of p + aux_size_of p else record_size_of p

  -- A whole record with its aux data.
  pub record IsRecord (p : List ℕ) : Type 0 where
    pub min_size : 8 ≤ record_size_of p
    pub not_compressed : ¬ IsCompressed (record_type_of p)
    pub aux_min_size : record_type_of p ≡ auxtrace → 48 ≤ record_size_of p
    pub exact_len : length p ≡ total_size_of p

  -- These raw records are markers (type 68). The first is at this offset, and each starts where a record may.
  abbrev pub AreMarkerRecords : SectionSize → ℕ → List (List ℕ) → Type 0
  AreMarkerRecords bound offset [] = Unit {0}
  AreMarkerRecords bound offset (p ∷ ps) =
      MayStartAt bound offset × IsRecord p × (record_type_of p ≡ finished_round) × AreMarkerRecords bound (offset + length p) ps

  -- The bytes from `offset` on are markers only.
  pub record ConsistsOfMarkers (bound : SectionSize) (offset : ℕ) (bytes : List ℕ) : Type 0 where
    pub raw_records : List (List ℕ)
    pub split : bytes ≡ concat raw_records
    pub elements : AreMarkerRecords bound offset raw_records

  -- The attributes in a record of this type; none in a file.
  abbrev pub attributes_in_record : SectionSize → ℕ → List ℕ → List Attribute
  attributes_in_record None kind body = if kind == header_attr then attribute_in order body ∷ [] else []
  attributes_in_record (Some size) kind body = []

  -- The attributes in the raw records, in order.
  abbrev pub attributes_in_records : SectionSize → List (List ℕ) → List Attribute
  attributes_in_records bound [] = []
  attributes_in_records bound (p ∷ ps) = attributes_in_record bound (record_type_of p) (drop 8 p) ++ attributes_in_records bound ps

  -- A whole record. In a pipe, a metadata record also contains valid metadata of its type.
  pub record IsValidRecord (bound : SectionSize) (p : List ℕ) : Type 0 where
    pub is_record : IsRecord p
    pub valid_attribute : bound ≡ None → record_type_of p ≡ header_attr → HoldsAttribute order (drop 8 p)
    pub valid_feature : bound ≡ None → record_type_of p ≡ header_feature → 8 ≤ length (drop 8 p)
    pub valid_event_desc : bound ≡ None → record_type_of p ≡ header_feature → feature_in_body order (drop 8 p) ≡ event_desc
        → IsReadableEventDesc order (drop 16 p)

  -- `rest` starts with the whole record `p`, which ends below 2^64.
  pub record StartsWithRecord (offset : ℕ) (rest p : List ℕ) : Type 0 where
    pub is_record : IsRecord p
    pub after_record : List ℕ
    pub split : rest ≡ p ++ after_record
    pub end_fits : offset + length p < 2 ^ 64

  -- The attribute is truncated, or the last identifier after it is.
  abbrev pub IsTruncatedAttribute : List ℕ → Type 0
  IsTruncatedAttribute body = IsTruncatedAttr (number_in order) body ⊎ HasTruncatedId (number_in order) body

  -- How the metadata in a pipe's record is invalid.
  abbrev pub HasInvalidMetadata : MetadataError → List ℕ → Type 0
  HasInvalidMetadata truncated_metadata p =
      ((record_type_of p ≡ header_attr) × IsTruncatedAttribute (drop 8 p)) ⊎ ((record_type_of p ≡ header_feature) × (length (drop 8 p) < 8))
  HasInvalidMetadata attr_size_too_small p = (record_type_of p ≡ header_attr) × IsTooSmall (number_in order) (drop 8 p)

  -- The record has type 80 and the feature EVENT_DESC, and its data `bytes` can't be read.
  pub record HasInvalidEventDesc (bytes p : List ℕ) : Type 0 where
    pub record_type : record_type_of p ≡ header_feature
    pub complete : 8 ≤ length (drop 8 p)
    pub matches : feature_in_body order (drop 8 p) ≡ event_desc
    pub data_bytes : bytes ≡ drop 16 p
    pub not_readable : ¬ IsReadableEventDesc order bytes

  -- A whole record header is at this offset. Its size is at least 8, and the end of its record fits in 64 bits.
  pub record HasRecordHeader (offset : ℕ) (rest : List ℕ) : Type 0 where
    pub complete_header : 8 ≤ length rest
    pub min_size : 8 ≤ record_size_of rest
    pub end_fits : offset + record_size_of rest < 2 ^ 64

  -- All bytes that the size in the record header counts are present.
  pub record HasCompleteBody (offset : ℕ) (rest : List ℕ) : Type 0 where
    pub header : HasRecordHeader offset rest
    pub complete : record_size_of rest ≤ length rest

  -- The body of a record of type 71 is complete, and contains the size of its aux data.
  pub record HasAuxSize (offset : ℕ) (rest : List ℕ) : Type 0 where
    pub complete_body : HasCompleteBody offset rest
    pub record_type : record_type_of rest ≡ auxtrace
    pub min_size : 48 ≤ record_size_of rest

  -- The error of the bytes at an offset, after the attributes `attrs`: that of the first check that fails.
  abbrev pub ErrorAt : SectionSize → ℕ → List Attribute → List ℕ → LayoutError → Type 0
  ErrorAt bound offset attrs rest truncated_header = (bound ≢ None) × (length rest < 8)
  ErrorAt bound offset attrs rest size_below_header = (8 ≤ length rest) × (record_size_of rest < 8)
  ErrorAt bound offset attrs rest end_overflows = (8 ≤ length rest) × (8 ≤ record_size_of rest) × (2 ^ 64 ≤ offset + record_size_of rest)
  ErrorAt bound offset attrs rest truncated_body = (bound ≢ None) × HasRecordHeader offset rest × (length rest < record_size_of rest)
  ErrorAt bound offset attrs rest compressed_record = HasCompleteBody offset rest × IsCompressed (record_type_of rest)
  ErrorAt bound offset attrs rest aux_body_too_short = HasCompleteBody offset rest × (record_type_of rest ≡ auxtrace) × (record_size_of rest < 48)
  ErrorAt bound offset attrs rest aux_end_overflows = HasAuxSize offset rest × (2 ^ 64 ≤ offset + total_size_of rest)
  ErrorAt bound offset attrs rest truncated_aux_data = HasAuxSize offset rest × (offset + total_size_of rest < 2 ^ 64) × (length rest < total_size_of rest)
  ErrorAt bound offset attrs rest (invalid_metadata cause) = (bound ≡ None) × ((p : List ℕ) × StartsWithRecord offset rest p × HasInvalidMetadata cause p)
  ErrorAt bound offset attrs rest (invalid_event_desc o bytes) =
      (bound ≡ None) × (o ≡ order) × ((p : List ℕ) × StartsWithRecord offset rest p × HasInvalidEventDesc bytes p)
  ErrorAt bound offset attrs rest (inconsistent_attributes b) =
      (bound ≡ None) × ((p : List ℕ) × StartsWithRecord offset rest p × IsValidRecord None p
      × AreInconsistent (attrs ++ attributes_in_record None (record_type_of p) (drop 8 p)) b)

  -- The record is truncated, in its header or in what the size in the header counts.
  abbrev pub IsTruncated : ℕ → List ℕ → Type 0
  IsTruncated offset rest = 8 ≤ length rest → HasRecordHeader offset rest × (length rest < record_size_of rest)

  -- The records end: at the end of the section or, in a pipe, in a truncated record.
  abbrev pub IsEnd : SectionSize → ℕ → List ℕ → Type 0
  IsEnd None offset rest = IsTruncated offset rest
  IsEnd (Some size) offset rest = size ≤ offset

  abbrev pub EndsWith : SectionSize → ℕ → List Attribute → List ℕ → LayoutEnd → Type 0
  EndsWith bound offset attrs rest ends_complete = IsEnd bound offset rest
  EndsWith bound offset attrs rest (ends_with_error f) = MayStartAt bound offset × ErrorAt bound offset attrs rest f

  -- The raw records of the bytes from `offset` on, after the attributes `attrs`. Each is valid and starts where a record may, and
  -- the attributes are consistent. After the raw records, the records end or there is an error.
  pub record Layout (bytes : List ℕ) (bound : SectionSize) (offset : ℕ) (attrs : List Attribute) (pieces : List (List ℕ)) (end : LayoutEnd) : Type 0 where
    pub rest : List ℕ
    pub split : bytes ≡ concat pieces ++ rest
    pub elements : All (IsValidRecord bound) pieces
    pub starts_in_section : pieces ≢ [] → MayStartAt bound (offset + length (concat (all_but_last pieces)))
    pub end_fits : offset + length (concat pieces) < 2 ^ 64
    pub consistent : AreConsistent (attrs ++ attributes_in_records bound pieces)
    pub end_matches : EndsWith bound (offset + length (concat pieces)) (attrs ++ attributes_in_records bound pieces) rest end

  -- The view of a record with this type, these flags and this body.
  abbrev pub record_view : ℕ → ℕ → List Attribute → ℕ → ℕ → List ℕ → RecordView
  record_view offset round attrs kind misc body = record {
    offset = offset;
    round = round;
    record_type = kind;
    misc = misc;
    endian = order;
    body = body;
    event = event_of order attrs kind body;
    timestamp = event_time (event_of order attrs kind body) kind body;
  }

  abbrev pub record_view_in : ℕ → ℕ → List Attribute → List ℕ → RecordView
  record_view_in offset round attrs p = record_view offset round attrs (record_type_of p) (misc_of p) (drop 8 p)

  -- The views of the raw records that aren't markers (type 68). The first raw record is at `offset`, in round `round`. The offset
  -- of each is the sum of the sizes before it, and its round counts the markers before it. Its attribute depends on the
  -- attributes before it.
  abbrev pub record_views : SectionSize → ℕ → ℕ → List Attribute → List (List ℕ) → List RecordView
  record_views bound offset round attrs [] = []
  record_views bound offset round attrs (p ∷ ps) = if record_type_of p == finished_round
      then record_views bound (offset + length p) (round + 1) (attrs ++ attributes_in_record bound (record_type_of p) (drop 8 p)) ps
      else record_view_in offset round attrs p
      ∷ record_views bound (offset + length p) round (attrs ++ attributes_in_record bound (record_type_of p) (drop 8 p)) ps

  -- The records that remain to be returned, and how the layout then ends.
  pub record RemainingRecords (bytes : List ℕ) (bound : SectionSize) (offset round : ℕ) (attrs : List Attribute) (records : List RecordView)
      (end : LayoutEnd) : Type 0 where
    pub raw_records : List (List ℕ)
    pub layout : Layout bytes bound offset attrs raw_records end
    pub elements : records ≡ record_views bound offset round attrs raw_records

  -- The attributes in the records.
  abbrev pub attributes_in_views : SectionSize → List RecordView → List Attribute
  attributes_in_views bound [] = []
  attributes_in_views bound (h ∷ hs) = attributes_in_record bound h.record_type h.body ++ attributes_in_views bound hs
