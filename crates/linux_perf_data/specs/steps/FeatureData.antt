-- Steps of private functions: the feature sections of a file: a table with one entry per feature, in ascending order, and the bytes that each entry locates.
use Rattle.std.specs.Prelude.{◌≡◌, ◌≢◌, ℕ, ◌*◌, ◌<◌, ◌⊎◌, List, length, map, All, Result, Ok, Err, IfSome, Vec}
use Rattle.std.specs.declared.alloc.Global.{Global}
use Rattle.indexmap.specs.IndexMap.{IndexMap}
use Rattle.perfdata_sources.specs.Source.{State, Consumed, EndedOrPaused, AfterSeek, SourceFailed, SourcePaused, all_bytes_of, at_offset}
use Rattle.perfdata_identifiers.specs.declared.features.Feature.{Feature}
use Rattle.perfdata_sources.specs.declared.endian.Endianness.{Endianness}
use Rattle.perfdata_base.specs.declared.section.PerfFileSection.{PerfFileSection}
use Rattle.perfdata_sections.specs.Error.{IsUnexpectedEof, IsIoError}
use Rattle.perfdata_sections.specs.declared.error.Error.{Error}
use Rattle.perfdata_sections.specs.declared.error.Error.TheVariants.{Memory}
use Rattle.linux_perf_data.specs.FeatureData.{FeatureEntry, feature_entries_in, HoldsSection, SectionTruncated, section_bytes, feature_data_by, FirstTruncatedSection, feature_table_of, HoldsAllSections, SectionsTruncated, feature_data_of}

-- The error of a source that failed is an I/O error. That of a source that paused is an unexpected end of file.
abbrev pub SourceErrorInBytes : State → Error → State → Type 0
SourceErrorInBytes old e new = (IsIoError e × SourceFailed old new) ⊎ (IsUnexpectedEof e × SourcePaused old new)

-- The entries of a parsed table.
abbrev pub feature_entries_of : List (Feature × PerfFileSection) → List FeatureEntry
feature_entries_of es = map (λ e. (e.0.0, e.1)) es

-- The whole table was read, with one entry for each feature.
pub record TableRead (order : Endianness) (features : List ℕ) (old : State) (es : List FeatureEntry) (new : State) : Type 0 where
  pub bytes : List ℕ
  pub exact_len : length bytes ≡ 16 * length features
  pub consumes : Consumed old bytes new
  pub matches : es ≡ feature_entries_in order bytes features

-- A part of the table was read. The cause is an unexpected end or an I/O error. The contract states no cause for a `Memory`
-- error.
pub record TableReadError (count : ℕ) (old : State) (e : Error) (new : State) : Type 0 where
  pub bytes : List ℕ
  pub consumes : Consumed old bytes new
  pub cause : e ≢ Memory → (length bytes < count) × ((IsUnexpectedEof e × EndedOrPaused old new) ⊎ (IsIoError e × SourceFailed old new))

abbrev pub ReadsFeatureTable : Endianness → List ℕ → State → Result (Vec (Feature × PerfFileSection) Global) Error → State → Type 0
ReadsFeatureTable order features old (Ok v) new = TableRead order features old (feature_entries_of v.items) new
ReadsFeatureTable order features old (Err e) new = TableReadError (16 * length features) old e new

-- Reads the bytes of one section. It fails if the section is truncated, or with the source error. The contract states no cause
-- for a `Memory` error.
abbrev pub ReadsSectionBytes : PerfFileSection → State → Result (Vec ℕ Global) Error → State → Type 0
ReadsSectionBytes s old (Ok v) new = AfterSeek old new × IfSome (all_bytes_of old.position) (λ all. HoldsSection all s × (v.items ≡ section_bytes all s))
ReadsSectionBytes s old (Err e) new =
    AfterSeek old new × (e ≢ Memory → (IsUnexpectedEof e × IfSome (all_bytes_of old.position) (λ all. SectionTruncated all s)) ⊎ SourceErrorInBytes old e new)

-- Reads the sections of these entries. It fails if one is truncated, or with the source error. The contract states no cause for a
-- `Memory` error.
abbrev pub ReadsFeatureData : {S : Type 0} → List FeatureEntry → State → Result (IndexMap Feature (Vec ℕ Global) S) Error → State → Type 0
ReadsFeatureData es old (Ok m) new = AfterSeek old new
    × IfSome (all_bytes_of old.position) (λ all. All (λ e. HoldsSection all e.1) es × ((n : ℕ) → feature_data_of m n ≡ feature_data_by all es n))
ReadsFeatureData es old (Err e) new = AfterSeek old new
    × (e ≢ Memory → (IsUnexpectedEof e × IfSome (all_bytes_of old.position) (λ all. FirstTruncatedSection all es)) ⊎ SourceErrorInBytes old e new)

-- Reads the table at offset `at` and the sections of these features. It fails if the table or a section is truncated, or with the
-- source error. The contract states no cause for a `Memory` error.
abbrev pub ReadsFeatures : {S : Type 0} → Endianness → ℕ → List ℕ → State → Result (IndexMap Feature (Vec ℕ Global) S) Error → State → Type 0
ReadsFeatures order at features old (Ok m) new =
    AfterSeek old new × IfSome (all_bytes_of old.position) (λ all. HoldsAllSections order all at features
    × ((n : ℕ) → feature_data_of m n ≡ feature_data_by all (feature_table_of order all at features) n))
ReadsFeatures order at features old (Err e) new =
    AfterSeek old new × (e ≢ Memory → (IsUnexpectedEof e × IfSome (all_bytes_of old.position) (λ all. SectionsTruncated order all at features))
    ⊎ SourceErrorInBytes old e new)

-- Seeks to the offset `at` from the first byte, or fails with an I/O error.
abbrev pub SeeksToOffset : {A : Type 0} → State → ℕ → Result A Error → State → Type 0
SeeksToOffset old at (Ok _) new = AfterSeek old new × (new.position ≡ at_offset at old.position)
SeeksToOffset old at (Err e) new = AfterSeek old new × IsIoError e × SourceFailed old new
