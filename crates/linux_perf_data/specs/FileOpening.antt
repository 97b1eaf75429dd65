-- The metadata of a perf.data file, and the first error in opening it.
use Rattle.std.specs.Prelude.{◌≡◌, ◌≢◌, ℕ, ◌+◌, ◌^◌, ◌<◌, ◌≤◌, ◌⊎◌, List, [], length, take, drop, Option}
use Rattle.perfdata_sources.specs.Source.{State, Position}
use Rattle.perfdata_base.specs.Section.{EndFitsU64, EndOverflowsU64}
use Rattle.perfdata_base.specs.Header.{file_header_of, magic_of}
use Rattle.perfdata_sources.specs.declared.endian.Endianness.{Endianness}
use Rattle.perfdata_base.specs.declared.header.PerfHeader.{PerfHeader}
use Rattle.perfdata_sections.specs.Error.{IsUnexpectedEof, IsInvalidInput}
use Rattle.perfdata_sections.specs.AttrFrames.{IsAttributesSourceError}
use Rattle.perfdata_sections.specs.declared.feature_sections.AttributeDescription.{AttributeDescription}
use Rattle.perfdata_sections.specs.declared.error.Error.{Error}
use Rattle.perfdata_sections.specs.declared.error.Error.TheVariants.{Read, UnrecognizedMagicValue, NoAttributes}
use Rattle.perfdata_sections.specs.declared.error.ReadError.TheVariants.{FeatureSection}
use Rattle.perfdata_identifiers.specs.Features.{features_of}
use Rattle.linux_perf_data.specs.Attribute.{Inconsistency, AreInconsistent}
use Rattle.linux_perf_data.specs.Descriptions.{described_attributes}
use Rattle.linux_perf_data.specs.Consistency.{error_of_inconsistency}
use Rattle.linux_perf_data.specs.AttributeSources.{KnownSections, known_sections, DescribesFrom, IsSourcesError}
use Rattle.linux_perf_data.specs.FeatureNumbers.{simpleperf_meta_info, event_desc}
use Rattle.linux_perf_data.specs.FeatureData.{HoldsAllSections, SectionsTruncated, feature_table_of, feature_data_by}

-- The offset of the feature table, which follows the data section.
abbrev pub table_offset : PerfHeader → ℕ
table_offset h = h.data_section.offset + h.data_section.size

-- The file contains the whole feature table and all sections of the header's features.
abbrev pub HoldsSections : Endianness → PerfHeader → List ℕ → Type 0
HoldsSections order h all = HoldsAllSections order all (table_offset h) (features_of h.features)

-- The data of a feature in the file.
abbrev pub section_data : Endianness → PerfHeader → List ℕ → ℕ → Option (List ℕ)
section_data order h all = feature_data_by all (feature_table_of order all (table_offset h) (features_of h.features))

-- The bytes of the sections EVENT_DESC and SIMPLEPERF_META_INFO, if the file has them.
abbrev pub attribute_sources_of : Endianness → PerfHeader → List ℕ → KnownSections
attribute_sources_of order h all = known_sections (section_data order h all event_desc) (section_data order h all simpleperf_meta_info)

-- The attributes of a file, from the first source that it has.
abbrev pub DescribesAttributes : Endianness → PerfHeader → List ℕ → List AttributeDescription → Type 0
DescribesAttributes order h all ds = DescribesFrom order h (attribute_sources_of order h all) all ds

-- The attributes of a file with these sections are inconsistent, and `e` reports it.
pub record InconsistencyError (order : Endianness) (h : PerfHeader) (sections : KnownSections) (e : Error) (all : List ℕ) : Type 0 where
  pub descriptions : List AttributeDescription
  pub attributes_match : DescribesFrom order h sections all descriptions
  pub inconsistency : Inconsistency
  pub is_inconsistent : AreInconsistent (described_attributes descriptions) inconsistency
  pub matches : e ≡ error_of_inconsistency inconsistency

-- The first error in the attributes of a file with these sections: they are invalid, there are none, or they are inconsistent.
abbrev pub IsAttributesErrorWith : Endianness → PerfHeader → KnownSections → List ℕ → Error → Type 0
IsAttributesErrorWith order h sections all e =
    IsSourcesError order h sections all e ⊎ (((e ≡ NoAttributes) × DescribesFrom order h sections all []) ⊎ InconsistencyError order h sections e all)

-- The first error after the feature sections, in the attributes.
abbrev pub IsAttributesError : Endianness → PerfHeader → List ℕ → Error → Type 0
IsAttributesError order h all e = IsAttributesErrorWith order h (attribute_sources_of order h all) all e

-- The first error after the header, as the bytes show it: the end of the data section is 2^64 or more, the feature table or a
-- section is truncated, or the attributes have an error.
abbrev pub IsErrorAfterHeader : Endianness → PerfHeader → List ℕ → Error → Type 0
IsErrorAfterHeader order h all e =
    ((e ≡ Read FeatureSection) × EndOverflowsU64 h.data_section)
    ⊎ ((IsUnexpectedEof e × EndFitsU64 h.data_section × SectionsTruncated order all (table_offset h) (features_of h.features))
    ⊎ (EndFitsU64 h.data_section × HoldsSections order h all × IsAttributesError order h all e))

-- The error of a source that failed or paused. In the header, the feature sections and seeks it is an I/O error, or an unexpected
-- end of file after a pause. In the attributes it may also be `Read(PerfEventAttr)`.
abbrev pub SourceErrorInOpening : State → Error → State → Type 0
SourceErrorInOpening old e new = IsAttributesSourceError old e new

-- The bytes at position `p` start with this header, of 104 bytes.
pub record HasHeader (p : Position) (h : PerfHeader) : Type 0 where
  pub complete : 104 ≤ length (drop p.offset p.all_bytes)
  pub matches : h ≡ file_header_of (take 104 (drop p.offset p.all_bytes))

-- The header bytes after the first 104 can be skipped: they are fewer than 2^63.
abbrev pub CanSkipExtra : PerfHeader → Type 0
CanSkipExtra h = h.header_size < 104 + 2 ^ 63

-- The header bytes after the first 104 can't be skipped: they are 2^63 or more, and the error is that of an invalid input.
abbrev pub IsExtraTooLong : PerfHeader → Error → Type 0
IsExtraTooLong h e = (104 + 2 ^ 63 ≤ h.header_size) × IsInvalidInput e

-- The header at `p` is that of a file with this byte order, and its extra bytes can be skipped.
pub record IsFileHeader (p : Position) (order : Endianness) (h : PerfHeader) : Type 0 where
  pub has_header : HasHeader p h
  pub can_skip_extra : CanSkipExtra h
  pub magic : h.magic ≡ magic_of order

-- The header's extra bytes can be skipped, but its magic is that of no file, and `e` contains it.
abbrev pub IsUnknownMagicError : Position → PerfHeader → Error → Type 0
IsUnknownMagicError p h e = HasHeader p h × CanSkipExtra h × ((order : Endianness) → h.magic ≢ magic_of order) × (e ≡ UnrecognizedMagicValue h.magic)

-- The first error in opening a file: the header is truncated, its bytes after the first 104 can't be skipped, its magic is that
-- of no file, or there is an error after the header.
abbrev pub IsFileError : Position → Error → Type 0
IsFileError p e =
    (IsUnexpectedEof e × (length (drop p.offset p.all_bytes) < 104))
    ⊎ (((h : PerfHeader) × HasHeader p h × IsExtraTooLong h e)
    ⊎ (((h : PerfHeader) × IsUnknownMagicError p h e)
    ⊎ ((order : Endianness) × ((h : PerfHeader) × IsFileHeader p order h × IsErrorAfterHeader order h p.all_bytes e))))
