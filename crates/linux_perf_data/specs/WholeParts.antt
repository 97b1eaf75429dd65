-- The parts that a perf.data file contains as a whole, and what it so contains of a recording.
use Rattle.std.specs.Prelude.{◌≡◌, ◌≢◌, ◌⊎◌, IsTrue, List, length, map, Result, Ok, Err, IfSome}
use Rattle.perfdata_sources.specs.Source.{State, Position, AfterSeek}
use Rattle.perfdata_identifiers.specs.Features.{features_of}
use Rattle.perfdata_sections.specs.declared.error.Error.{Error}
use Rattle.perfdata_sections.specs.declared.error.Error.TheVariants.{Memory}
use Rattle.linux_perf_data.specs.FeatureData.{FeatureEntry}
use Rattle.linux_perf_data.specs.FileOpening.{IsFileHeader, SourceErrorInOpening}
use Rattle.linux_perf_data.specs.NamedErrors.{IsFileOpeningError}
use Rattle.linux_perf_data.specs.UnfinishedFile.{IsVisibleLength, has_whole_data, IsDataSize, whole_sections, IsHeaderError}
use Rattle.linux_perf_data.specs.declared.file.unfinished.Completeness.{Completeness}
use Rattle.linux_perf_data.specs.declared.file.unfinished.Completeness.TheVariants.{Complete, NoDataSize, Truncated}
use Rattle.linux_perf_data.specs.declared.file.unfinished.WholeParts.{WholeParts}

-- The features whose section is complete, and where these sections are.
abbrev pub entries_of_parts : WholeParts → List FeatureEntry
entries_of_parts parts = map (λ e. (e.0.0, e.1)) parts.sections.items

-- The file contains the whole data section, and the whole section of each feature of the header.
abbrev pub HasAllParts : WholeParts → Type 0
HasAllParts parts = IsTrue (has_whole_data parts.header parts.length) × (length parts.sections.items ≡ length (features_of parts.header.features))

abbrev pub IsCompletenessOf : WholeParts → Completeness → Type 0
IsCompletenessOf parts Complete = (parts.header.data_section.size ≢ 0) × HasAllParts parts
IsCompletenessOf parts NoDataSize = parts.header.data_section.size ≡ 0
IsCompletenessOf parts Truncated = (parts.header.data_section.size ≢ 0) × (¬ HasAllParts parts)

-- These are the parts of the file at position `p`, whose length is one that its source shows.
pub record HasWholeParts (old : State) (p : Position) (parts : WholeParts) : Type 0 where
  pub matches : IsFileHeader p parts.endian parts.header
  pub visible : IsVisibleLength old.steady p.all_bytes parts.length
  pub data_size : IsDataSize parts.endian parts.header p.all_bytes parts.length parts.data_size
  pub sections : entries_of_parts parts ≡ whole_sections parts.endian parts.header p.all_bytes parts.length

-- The parts of a file were found, or there is the first error in its header, or that of the source. The contract states no cause
-- for a `Memory` error.
abbrev pub FindsWholeParts : State → Result WholeParts Error → State → Type 0
FindsWholeParts old (Ok parts) new = AfterSeek old new × IfSome old.position (λ p. HasWholeParts old p parts)
FindsWholeParts old (Err e) new =
    AfterSeek old new × IsFileOpeningError e × (e ≢ Memory → IfSome old.position (λ p. IsHeaderError p e) ⊎ SourceErrorInOpening old e new)
