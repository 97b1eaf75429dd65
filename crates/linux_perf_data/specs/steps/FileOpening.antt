-- Steps of private functions: the metadata of a perf.data file, and the first error in opening it.
use Rattle.std.specs.Prelude.{◌≡◌, ◌≢◌, ℕ, ◌<◌, ◌⊎◌, List, length, Result, Ok, Err, Some, IfSome, Vec}
use Rattle.std.specs.declared.alloc.Global.{Global}
use Rattle.perfdata_sources.specs.Source.{State, Position, AfterSeek, at_offset, all_bytes_of}
use Rattle.perfdata_base.specs.Section.{EndFitsU64}
use Rattle.perfdata_base.specs.Header.{magic_of}
use Rattle.perfdata_sources.specs.declared.endian.Endianness.{Endianness}
use Rattle.perfdata_base.specs.declared.header.PerfHeader.{PerfHeader}
use Rattle.perfdata_sections.specs.AttrFrames.{IsAttributesSourceError}
use Rattle.perfdata_sections.specs.declared.feature_sections.AttributeDescription.{AttributeDescription}
use Rattle.perfdata_sections.specs.declared.error.Error.{Error}
use Rattle.perfdata_sections.specs.declared.error.Error.TheVariants.{UnrecognizedMagicValue, Memory}
use Rattle.indexmap.specs.IndexMap.{IndexMap}
use Rattle.perfdata_identifiers.specs.declared.features.Feature.{Feature}
use Rattle.perfdata_identifiers.specs.Features.{features_of}
use Rattle.linux_perf_data.specs.Attribute.{AreConsistent}
use Rattle.linux_perf_data.specs.Descriptions.{described_attributes}
use Rattle.linux_perf_data.specs.AttributeSources.{KnownSections, DescribesFrom}
use Rattle.linux_perf_data.specs.FeatureData.{feature_data_of}
use Rattle.linux_perf_data.specs.steps.FeatureData.{ReadsFeatures}
use Rattle.linux_perf_data.specs.NamedErrors.{IsFileOpeningError}
use Rattle.linux_perf_data.specs.declared.file.opening.FileOpening.{FileOpening}
use Rattle.linux_perf_data.specs.FileOpening.{table_offset, HoldsSections, section_data, DescribesAttributes, IsAttributesErrorWith, IsErrorAfterHeader, SourceErrorInOpening, IsFileHeader, IsFileError}

abbrev pub RecognizesMagic : List ℕ → Result Endianness Error → Type 0
RecognizesMagic magic (Ok order) = magic ≡ magic_of order
RecognizesMagic magic (Err e) = (e ≡ UnrecognizedMagicValue magic) × ((order : Endianness) → magic ≢ magic_of order)

-- Reads the attributes of a file with these sections: consistent ones, at least one. The contract states no cause for a `Memory`
-- error.
abbrev pub ReadsConsistentAttributes : Endianness → PerfHeader → KnownSections → State → Result (Vec AttributeDescription Global) Error → State → Type 0
ReadsConsistentAttributes order h sections old (Ok v) new =
    AfterSeek old new × IfSome (all_bytes_of old.position) (λ all. DescribesFrom order h sections all v.items) × (0 < length v.items)
    × AreConsistent (described_attributes v.items)
ReadsConsistentAttributes order h sections old (Err e) new =
    AfterSeek old new × IsFileOpeningError e
    × (e ≢ Memory → IfSome (all_bytes_of old.position) (λ all. IsAttributesErrorWith order h sections all e) ⊎ IsAttributesSourceError old e new)

-- The file was opened after its header. It has consistent attributes, at least one, and the source is at the first record.
pub record OpenedAfterHeader (order : Endianness) (h : PerfHeader) (old : State) (opening : FileOpening) (new : State) : Type 0 where
  pub endian : opening.perf_file.endian ≡ order
  pub end_fits : EndFitsU64 h.data_section
  pub features : opening.perf_file.features ≡ h.features
  pub data_size : opening.data_size ≡ h.data_section.size
  pub nonempty : 0 < length opening.perf_file.attributes.items
  pub consistent : AreConsistent (described_attributes opening.perf_file.attributes.items)
  pub after_seek : AfterSeek old new
  pub position : new.position ≡ at_offset h.data_section.offset old.position
  pub sections : IfSome (all_bytes_of old.position) (λ all. HoldsSections order h all
      × ((n : ℕ) → feature_data_of opening.perf_file.sections n ≡ section_data order h all n))
  pub attributes : IfSome (all_bytes_of old.position) (λ all. DescribesAttributes order h all opening.perf_file.attributes.items)

pub record OpenAfterHeaderError (order : Endianness) (h : PerfHeader) (old : State) (e : Error) (new : State) : Type 0 where
  pub after_seek : AfterSeek old new
  pub named_error : IsFileOpeningError e
  pub cause : e ≢ Memory → IfSome (all_bytes_of old.position) (λ all. IsErrorAfterHeader order h all e) ⊎ SourceErrorInOpening old e new

-- Reads the feature sections of a file. Their table follows the data section.
abbrev pub ReadsSections : {S : Type 0} → Endianness → PerfHeader → State → Result (IndexMap Feature (Vec ℕ Global) S) Error → State → Type 0
ReadsSections order h old (Ok m) new = EndFitsU64 h.data_section × ReadsFeatures order (table_offset h) (features_of h.features) old (Ok m) new
ReadsSections order h old (Err e) new = OpenAfterHeaderError order h old e new

abbrev pub OpensAfterHeader : Endianness → PerfHeader → State → Result FileOpening Error → State → Type 0
OpensAfterHeader order h old (Ok opening) new = OpenedAfterHeader order h old opening new
OpensAfterHeader order h old (Err e) new = OpenAfterHeaderError order h old e new

-- The file at position `p` was opened. The opening contains what its header says, and the source is at the first record.
pub record OpenedFileAt (p : Position) (opening : FileOpening) (new : State) : Type 0 where
  pub header : PerfHeader
  pub matches : IsFileHeader p opening.perf_file.endian header
  pub end_fits : EndFitsU64 header.data_section
  pub features : opening.perf_file.features ≡ header.features
  pub data_size : opening.data_size ≡ header.data_section.size
  pub sections_complete : HoldsSections opening.perf_file.endian header p.all_bytes
  pub sections : (n : ℕ) → feature_data_of opening.perf_file.sections n ≡ section_data opening.perf_file.endian header p.all_bytes n
  pub attributes : DescribesAttributes opening.perf_file.endian header p.all_bytes opening.perf_file.attributes.items
  pub position : new.position ≡ Some (record { all_bytes = p.all_bytes; offset = header.data_section.offset })

pub record FileOpened (old : State) (opening : FileOpening) (new : State) : Type 0 where
  pub nonempty : 0 < length opening.perf_file.attributes.items
  pub consistent : AreConsistent (described_attributes opening.perf_file.attributes.items)
  pub after_seek : AfterSeek old new
  pub file_opened : IfSome old.position (λ p. OpenedFileAt p opening new)

pub record FileOpenError (old : State) (e : Error) (new : State) : Type 0 where
  pub after_seek : AfterSeek old new
  pub named_error : IsFileOpeningError e
  pub cause : e ≢ Memory → IfSome old.position (λ p. IsFileError p e) ⊎ SourceErrorInOpening old e new

abbrev pub OpensPerfFile : State → Result FileOpening Error → State → Type 0
OpensPerfFile old (Ok opening) new = FileOpened old opening new
OpensPerfFile old (Err e) new = FileOpenError old e new
