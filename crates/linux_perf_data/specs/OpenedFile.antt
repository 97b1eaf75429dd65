-- The contracts of parsing a file: the reader on success, and the cause on error.
use Rattle.std.specs.Prelude.{◌≡◌, ◌≢◌, ◌⊎◌, ℕ, List, drop, Result, Ok, Err, Some, IfSome}
use Rattle.perfdata_sources.specs.Source.{State, Position, AfterSeek}
use Rattle.perfdata_base.specs.Section.{EndFitsU64}
use Rattle.perfdata_sources.specs.declared.endian.Endianness.{Endianness}
use Rattle.perfdata_base.specs.declared.header.PerfHeader.{PerfHeader}
use Rattle.perfdata_sections.specs.declared.error.Error.{Error}
use Rattle.perfdata_sections.specs.declared.error.Error.TheVariants.{Memory}
use Rattle.linux_perf_data.specs.declared.file.opening.FileOpening.{FileOpening}
use Rattle.linux_perf_data.specs.declared.file_reader.PerfFileReader.{PerfFileReader}
use Rattle.linux_perf_data.specs.declared.records.iter.PerfRecordIter.{PerfRecordIter}
use Rattle.linux_perf_data.specs.declared.records.iter.Stage.TheVariants.{Running}
use Rattle.linux_perf_data.specs.declared.perf_file.PerfFile.{PerfFile}
use Rattle.linux_perf_data.specs.Attribute.{Attribute, AreConsistent}
use Rattle.linux_perf_data.specs.AttributeLookup.{Represents}
use Rattle.linux_perf_data.specs.Layout.{RecordView, LayoutEnd, RemainingRecords}
use Rattle.linux_perf_data.specs.declared.records.input.RecordInput.TheVariants.{Section}
use Rattle.linux_perf_data.specs.Iter.{HasRemainingRecords, iter_source_state, section_size_of}
use Rattle.linux_perf_data.specs.FeatureData.{feature_data_of}
use Rattle.linux_perf_data.specs.PerfFile.{descriptions_of_file, features_of_file, endian_of_file, feature_data_in_file, attributes_of_file}
use Rattle.linux_perf_data.specs.FileOpening.{IsFileHeader, HoldsSections, section_data, DescribesAttributes, IsFileError, SourceErrorInOpening}

-- The records of a file with this header, and how the layout of its data section ends.
abbrev pub FileRecords : Position → Endianness → PerfHeader → List Attribute → List RecordView → LayoutEnd → Type 0
FileRecords p order h attrs records end = RemainingRecords order (drop h.data_section.offset p.all_bytes) (Some h.data_section.size) 0 0 attrs records end

-- The bytes of the file at position `p` describe the `PerfFile`: its header, its feature sections, which are complete, and its
-- attributes, which are consistent.
pub record DescribesFile (p : Position) (header : PerfHeader) (file : PerfFile) : Type 0 where
  pub matches : IsFileHeader p (endian_of_file file) header
  pub end_fits : EndFitsU64 header.data_section
  pub features : features_of_file file ≡ header.features
  pub sections_complete : HoldsSections (endian_of_file file) header p.all_bytes
  pub sections : (n : ℕ) → feature_data_in_file file n ≡ section_data (endian_of_file file) header p.all_bytes n
  pub attributes : DescribesAttributes (endian_of_file file) header p.all_bytes (descriptions_of_file file)
  pub consistent : AreConsistent (attributes_of_file file)

-- Parsing a file failed, and its source was dropped. The bytes of the file show the cause, or the source failed or paused. An
-- infallible source does neither.
pub record FileParseError (old : State) (e : Error) : Type 0 where
  pub final_state : State
  pub after_seek : AfterSeek old final_state
  pub cause : e ≢ Memory → IfSome old.position (λ p. IsFileError p e) ⊎ SourceErrorInOpening old e final_state

module _ {R : Type 0} (state : R → State) where
  -- The iterator is at the first record.
  pub record IsAtFirstRecord (file : PerfFile) (it : PerfRecordIter R) : Type 0 where
    pub stage_running : it.stage ≡ Running
    pub offset : it.offset ≡ 0
    pub round : it.round ≡ 0
    pub same_endian : it.endian ≡ endian_of_file file
    pub represents : Represents it.endian it.attribute_lookup (attributes_of_file file)

  -- The reader starts with the contents of the opening.
  pub record StartsReader (source : R) (opening : FileOpening) (r : PerfFileReader R) : Type 0 where
    pub same_source : r.record_iter.source ≡ source
    pub input : r.record_iter.input ≡ Section opening.data_size
    pub at_first_record : IsAtFirstRecord r.perf_file r.record_iter
    pub same_endian : endian_of_file r.perf_file ≡ opening.perf_file.endian
    pub features : features_of_file r.perf_file ≡ opening.perf_file.features
    pub sections : (n : ℕ) → feature_data_in_file r.perf_file n ≡ feature_data_of opening.perf_file.sections n
    pub attributes : descriptions_of_file r.perf_file ≡ opening.perf_file.attributes.items

  -- Builds a reader from an opening. The error is `Memory`.
  abbrev pub BuildsReader : R → FileOpening → Result (PerfFileReader R) Error → Type 0
  BuildsReader source opening (Ok r) = StartsReader source opening r
  BuildsReader source opening (Err e) = e ≡ Memory

  -- The file at position `p` was opened. The iterator's remaining records are the file's records.
  pub record FileOpensAt (p : Position) (file : PerfFile) (it : PerfRecordIter R) : Type 0 where
    pub header : PerfHeader
    pub describes : DescribesFile p header file
    pub bytes : (iter_source_state state it).bytes ≡ Some (drop header.data_section.offset p.all_bytes)
    pub section_size : section_size_of state it ≡ Some header.data_section.size
    pub file_to_iter : (records : List RecordView) (end : LayoutEnd) → FileRecords p (endian_of_file file) header (attributes_of_file file) records end
        → HasRemainingRecords state it (attributes_of_file file) records end
    pub iter_to_file : (records : List RecordView) (end : LayoutEnd) → HasRemainingRecords state it (attributes_of_file file) records end
        → FileRecords p (endian_of_file file) header (attributes_of_file file) records end

  -- A file was parsed.
  pub record FileParsed (old : State) (file : PerfFile) (it : PerfRecordIter R) : Type 0 where
    pub at_first_record : IsAtFirstRecord file it
    pub in_section : (size : ℕ) × (section_size_of state it ≡ Some size)
    pub after_seek : AfterSeek old (iter_source_state state it)
    pub file_opened : IfSome old.position (λ p. FileOpensAt p file it)

  abbrev pub ParsesFile : State → Result (PerfFileReader R) Error → Type 0
  ParsesFile old (Ok r) = FileParsed old r.perf_file r.record_iter
  ParsesFile old (Err e) = FileParseError old e
