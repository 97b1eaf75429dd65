-- The theorems about layouts, openings and their errors.
use Rattle.std.specs.Prelude.{◌≡◌, ◌≢◌, ◌⊎◌, ℕ, ◌+◌, ◌^◌, ◌<◌, ◌≤◌, ◌==◌, IsTrue, List, ◌∷◌, ◌++◌, length, take, drop, map, count_by, All, AllPairs, Option, Some}
use Rattle.std.specs.List.{concat}
use Rattle.perfdata_sources.specs.Source.{Position}
use Rattle.perfdata_base.specs.declared.header.PerfHeader.{PerfHeader}
use Rattle.perfdata_sources.specs.declared.endian.Endianness.{Endianness}
use Rattle.linux_perf_data.specs.Attribute.{Attribute, AreConsistent, Inconsistency, AreInconsistent}
use Rattle.linux_perf_data.specs.Layout.{SectionSize, MayStartAt, IsEnd, IsRecord, IsValidRecord, StartsWithRecord, LayoutError, ErrorAt, LayoutEnd, ends_complete, Layout, RecordView, record_views, record_view_in, attributes_in_views, RemainingRecords, attributes_in_record, attributes_in_records, record_type_of, record_size_of}
use Rattle.perfdata_sources.specs.Endian.{number_in}
use Rattle.perfdata_sections.specs.AttributeDescription.{name_in, ids_in, events_in}
use Rattle.perfdata_records.specs.Auxtrace.{HoldsAuxtrace}
use Rattle.perfdata_sections.specs.Error.{IsUnexpectedEof, IsInvalidInput, IsInvalidData}
use Rattle.perfdata_sections.specs.EventDesc.{IsEventDescError}
use Rattle.perfdata_sections.specs.RecordTypes.{auxtrace, finished_round}
use Rattle.perfdata_sections.specs.declared.error.Error.{Error}
use Rattle.perfdata_sections.specs.declared.error.Error.TheVariants.{UnrecognizedMagicValue}
use Rattle.perfdata_sections.specs.declared.feature_sections.AttributeDescription.{AttributeDescription}
use Rattle.linux_perf_data.specs.Names.{IsReadableEventDesc, NamedByEventDesc}
use Rattle.perfdata_base.specs.Header.{magic_of}
use Rattle.linux_perf_data.specs.FileOpening.{HasHeader, CanSkipExtra, IsFileError}
use Rattle.linux_perf_data.specs.OpenedFile.{DescribesFile}
use Rattle.linux_perf_data.specs.PerfFile.{descriptions_of_file, features_of_file, endian_of_file, feature_data_in_file}
use Rattle.linux_perf_data.specs.PipeOpening.{IsPipeHeader, AreMetadata, EndsMetadata, CanOpenPipe, IsPipeError}
use Rattle.linux_perf_data.specs.UnfinishedFile.{has_whole_data, IsPartialRecord, IsDataSize, UnfinishedRecords}
use Rattle.linux_perf_data.specs.declared.perf_file.PerfFile.{PerfFile}

-- At most one prefix of the bytes is a whole record: no record is a proper prefix of another.
abbrev pub RecordIsUnique : Type 0
RecordIsUnique = (order : Endianness) (p q after later : List ℕ) → IsRecord order p → IsRecord order q → p ++ after ≡ q ++ later → (p ≡ q) × (after ≡ later)

-- At most one layout error holds at an offset.
abbrev pub ErrorIsUnique : Type 0
ErrorIsUnique = (order : Endianness) (bound : SectionSize) (offset : ℕ) (attrs : List Attribute) (rest : List ℕ) (f g : LayoutError) → MayStartAt bound offset →
    ErrorAt order bound offset attrs rest f → ErrorAt order bound offset attrs rest g → f ≡ g

-- No layout error holds where a valid record starts and its attributes are consistent with those before.
abbrev pub NoErrorAtRecord : Type 0
NoErrorAtRecord =
    (order : Endianness) (bound : SectionSize) (offset : ℕ) (attrs : List Attribute) (rest p : List ℕ) (f : LayoutError) → MayStartAt bound offset →
    StartsWithRecord order offset rest p → IsValidRecord order bound p
    → AreConsistent (attrs ++ attributes_in_record order bound (record_type_of order p) (drop 8 p)) → ¬ ErrorAt order bound offset attrs rest f

-- At each offset the records end, a layout error holds, or a valid record starts whose attributes are consistent with those
-- before.
abbrev pub EndErrorOrRecord : Type 0
EndErrorOrRecord = (order : Endianness) (bound : SectionSize) (offset : ℕ) (attrs : List Attribute) (rest : List ℕ) → AreConsistent attrs →
    IsEnd order bound offset rest ⊎ (((f : LayoutError) × ErrorAt order bound offset attrs rest f)
    ⊎ ((p : List ℕ) × StartsWithRecord order offset rest p × IsValidRecord order bound p
    × AreConsistent (attrs ++ attributes_in_record order bound (record_type_of order p) (drop 8 p))))

-- The attributes are consistent, or one is the first that doesn't conform: attributes that all conform have the same id parse
-- info.
abbrev pub ConsistentOrNot : Type 0
ConsistentOrNot = (attrs : List Attribute) → AreConsistent attrs ⊎ ((b : Inconsistency) × AreInconsistent attrs b)

-- At most one of the two holds, and the first inconsistency is unique.
abbrev pub InconsistencyIsUnique : Type 0
InconsistencyIsUnique = (attrs : List Attribute) (b c : Inconsistency) → AreInconsistent attrs b → AreInconsistent attrs c → (b ≡ c) × (¬ AreConsistent attrs)

-- The layout of the bytes is unique.
abbrev pub LayoutIsUnique : Type 0
LayoutIsUnique = (order : Endianness) (bytes : List ℕ) (bound : SectionSize) (offset : ℕ) (attrs : List Attribute) (ps qs : List (List ℕ)) (e f : LayoutEnd) →
    Layout order bytes bound offset attrs ps e → Layout order bytes bound offset attrs qs f → (ps ≡ qs) × (e ≡ f)

-- All bytes have a layout, if the attributes before are consistent.
abbrev pub LayoutExists : Type 0
LayoutExists = (order : Endianness) (bytes : List ℕ) (bound : SectionSize) (offset : ℕ) (attrs : List Attribute) →
    offset < 2 ^ 64 → AreConsistent attrs → (raw_records : List (List ℕ)) × ((end : LayoutEnd) × Layout order bytes bound offset attrs raw_records end)

-- The remaining records and their end are unique.
abbrev pub RemainingRecordsAreUnique : Type 0
RemainingRecordsAreUnique =
    (order : Endianness) (bytes : List ℕ) (bound : SectionSize) (offset round : ℕ) (attrs : List Attribute) (rs ss : List RecordView) (e f : LayoutEnd) →
    RemainingRecords order bytes bound offset round attrs rs e → RemainingRecords order bytes bound offset round attrs ss f → (rs ≡ ss) × (e ≡ f)

-- The later record has a greater offset, and the same round or a later one.
abbrev pub FollowsRecord : RecordView → RecordView → Type 0
FollowsRecord h later = (h.offset < later.offset) × (h.round ≤ later.round)

-- Offsets increase strictly and rounds don't decrease. None is below the start.
abbrev pub OffsetsIncrease : Type 0
OffsetsIncrease =
    (order : Endianness) (bound : SectionSize) (offset round : ℕ) (attrs : List Attribute) (raw_records : List (List ℕ)) → All (IsRecord order) raw_records →
    AllPairs FollowsRecord (record_views order bound offset round attrs raw_records)
    × All (λ h. (offset ≤ h.offset) × (round ≤ h.round)) (record_views order bound offset round attrs raw_records)

-- The number of markers in the raw records.
abbrev pub marker_count : Endianness → List (List ℕ) → ℕ
marker_count order raw_records = count_by (λ p. record_type_of order p == finished_round) raw_records

-- The view of a raw record after others: its offset and its round count them, and their attributes precede it.
abbrev pub record_view_after : Endianness → SectionSize → ℕ → ℕ → List Attribute → List (List ℕ) → List ℕ → RecordView
record_view_after order bound offset round attrs earlier p =
    record_view_in order (offset + length (concat earlier)) (round + marker_count order earlier) (attrs ++ attributes_in_records order bound earlier) p

-- Each raw record that isn't a marker is returned, with its offset and its round.
abbrev pub OffsetAndRoundOfRecord : Type 0
OffsetAndRoundOfRecord = (order : Endianness) (bound : SectionSize) (offset round : ℕ) (attrs : List Attribute) (earlier later : List (List ℕ)) (p : List ℕ)
    → record_type_of order p ≢ finished_round →
    record_views order bound offset round attrs (earlier ++ p ∷ later)
    ≡ record_views order bound offset round attrs earlier
    ++ record_view_after order bound offset round attrs earlier p
    ∷ record_views order bound (offset + length (concat earlier) + length p) (round + marker_count order earlier) ((attrs
    ++ attributes_in_records order bound earlier) ++ attributes_in_record order bound (record_type_of order p) (drop 8 p)) later

-- The attributes in the raw records are those in the returned records.
abbrev pub MarkersAddNoAttributes : Type 0
MarkersAddNoAttributes = (order : Endianness) (bound : SectionSize) (offset round : ℕ) (attrs : List Attribute) (raw_records : List (List ℕ)) →
    attributes_in_views order bound (record_views order bound offset round attrs raw_records) ≡ attributes_in_records order bound raw_records

-- If the header of a record AUXTRACE gives a size of 48, without the aux data, its body is that of an auxtrace record.
abbrev pub AuxtracesParse : Type 0
AuxtracesParse = (order : Endianness) (offset round : ℕ) (attrs : List Attribute) (p : List ℕ) → IsRecord order p → record_type_of order p ≡ auxtrace
    → record_size_of order p ≡ 48 →
    HoldsAuxtrace (number_in order) (record_view_in order offset round attrs p).body

-- An EVENT_DESC with an error can't be read.
abbrev pub NoNamesOnError : Type 0
NoNamesOnError = (order : Endianness) (e : Error) (bytes : List ℕ) → IsEventDescError (number_in order) e bytes → ¬ IsReadableEventDesc order bytes

-- Attributes with the same ids have the same names by one EVENT_DESC, and without one.
abbrev pub NamesAreUnique : Type 0
NamesAreUnique = (order : Endianness) (desc : Option (List ℕ)) (ds es : List AttributeDescription) →
    NamedByEventDesc order desc ds → NamedByEventDesc order desc es → map ids_in ds ≡ map ids_in es → map name_in ds ≡ map name_in es

-- The metadata records of a pipe's opening are unique, if no metadata record follows them.
abbrev pub PipeOpeningIsUnique : Type 0
PipeOpeningIsUnique = (order : Endianness) (ps qs : List (List ℕ)) (rest later : List ℕ) → AreMetadata order ps → AreMetadata order qs
    → EndsMetadata order rest → EndsMetadata order later →
    concat ps ++ rest ≡ concat qs ++ later → (ps ≡ qs) × (rest ≡ later)

-- A pipe whose metadata can open it has no error.
abbrev pub DescribedPipeOpens : Type 0
DescribedPipeOpens = (order : Endianness) (header : List ℕ) (ps : List (List ℕ)) (rest : List ℕ) (e : Error) → IsPipeHeader order header → AreMetadata order ps
    → EndsMetadata order rest → CanOpenPipe order ps →
    ¬ IsPipeError (header ++ (concat ps ++ rest)) e

-- A file whose bytes describe it has no error.
abbrev pub DescribedFileOpens : Type 0
DescribedFileOpens = (p : Position) (h : PerfHeader) (file : PerfFile) (e : Error) → DescribesFile p h file → ¬ IsFileError p e

-- Two descriptions of a file agree.
pub record DescribeSame (h i : PerfHeader) (f g : PerfFile) : Type 0 where
  pub header : h ≡ i
  pub same_endian : endian_of_file f ≡ endian_of_file g
  pub features : features_of_file f ≡ features_of_file g
  pub feature_data : (n : ℕ) → feature_data_in_file f n ≡ feature_data_in_file g n
  pub events : events_in (descriptions_of_file f) ≡ events_in (descriptions_of_file g)

-- The bytes of a file determine its header, its byte order, its features and their data, and its attributes with their names and
-- ids.
abbrev pub FileDescriptionIsUnique : Type 0
FileDescriptionIsUnique = (p : Position) (h i : PerfHeader) (f g : PerfFile) → DescribesFile p h f → DescribesFile p i g → DescribeSame h i f g

-- Every error of the file satisfies `Says`, and the file doesn't open.
abbrev pub FailsWith : Position → (Error → Type 0) → Type 0
FailsWith p Says = ((e : Error) → IsFileError p e → Says e) × ((h : PerfHeader) (file : PerfFile) → ¬ DescribesFile p h file)

-- Fewer than 104 bytes are a truncated header, which is an unexpected end of file.
abbrev pub TruncatedHeaderFails : Type 0
TruncatedHeaderFails = (p : Position) → length (drop p.offset p.all_bytes) < 104 → FailsWith p IsUnexpectedEof

-- A header with 2^63 bytes or more after its first 104 is invalid input, whatever its magic is and whatever follows it.
abbrev pub FarHeaderFails : Type 0
FarHeaderFails = (p : Position) (h : PerfHeader) → HasHeader p h → 104 + 2 ^ 63 ≤ h.header_size → FailsWith p IsInvalidInput

-- A header whose extra bytes can be skipped and whose magic is unknown fails with its magic, whatever follows it.
abbrev pub UnknownMagicFails : Type 0
UnknownMagicFails = (p : Position) (h : PerfHeader) → HasHeader p h → CanSkipExtra h → ((order : Endianness) → h.magic ≢ magic_of order)
    → FailsWith p (λ e. e ≡ UnrecognizedMagicValue h.magic)

-- Two errors have the same cause. They are equal, or both are I/O errors of one kind: unexpected end of file, invalid input, or
-- invalid data.
abbrev pub SameCause : Error → Error → Type 0
SameCause e f = (e ≡ f) ⊎ ((IsUnexpectedEof e × IsUnexpectedEof f) ⊎ ((IsInvalidInput e × IsInvalidInput f) ⊎ (IsInvalidData e × IsInvalidData f)))

-- All errors of one file have the same cause.
abbrev pub FileErrorIsUnique : Type 0
FileErrorIsUnique = (p : Position) (e f : Error) → IsFileError p e → IsFileError p f → SameCause e f

-- All errors of one pipe have the same cause.
abbrev pub PipeErrorIsUnique : Type 0
PipeErrorIsUnique = (bytes : List ℕ) (e f : Error) → IsPipeError bytes e → IsPipeError bytes f → SameCause e f

-- Without the whole data section, the bytes from the data offset to the end are whole records and a part of one. If no record is
-- compressed, the records that remain after the opening are exactly these, each once, in order, and then they end.
abbrev pub WholeRecordsRemain : Type 0
WholeRecordsRemain =
    (order : Endianness) (p : Position) (h : PerfHeader) (len size : ℕ) (attrs : List Attribute) (raw_records : List (List ℕ)) (rest : List ℕ)
    (records : List RecordView) (end : LayoutEnd) → ¬ IsTrue (has_whole_data h len)
    → drop h.data_section.offset (take len p.all_bytes) ≡ concat raw_records ++ rest → All (IsRecord order) raw_records → IsPartialRecord order rest
    → IsDataSize order h p.all_bytes len size → size < 2 ^ 64 → UnfinishedRecords p order h size attrs records end →
    (records ≡ record_views order (Some size) 0 0 attrs raw_records) × (end ≡ ends_complete)
