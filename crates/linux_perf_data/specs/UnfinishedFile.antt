-- A file whose recording wasn't finished, or whose end is missing: what its bytes describe, and the first error in opening it.
use Rattle.std.specs.Prelude.{◌≡◌, ◌≢◌, ◌↔◌, ℕ, ◌-◌, ◌/◌, ◌<◌, ◌≤◌, ◌⊎◌, ◌++◌, ◌&&◌, ◌||◌, Bool, not, nat_eq, is_some, IsTrue, List, [], length, take, drop, filter, All, cond, nat_lt, nat_le, Some, IsSome, Result, Ok, Err, IfSome}
use Rattle.std.specs.List.{concat}
use Rattle.perfdata_sources.specs.Source.{State, Position, AfterSeek}
use Rattle.perfdata_identifiers.specs.Features.{HasFeature, features_of}
use Rattle.perfdata_sources.specs.declared.endian.Endianness.{Endianness}
use Rattle.perfdata_base.specs.declared.header.PerfHeader.{PerfHeader}
use Rattle.perfdata_sections.specs.Error.{IsUnexpectedEof}
use Rattle.perfdata_sections.specs.RecordTypes.{auxtrace}
use Rattle.perfdata_sections.specs.declared.feature_sections.AttributeDescription.{AttributeDescription}
use Rattle.perfdata_sections.specs.declared.error.Error.{Error}
use Rattle.perfdata_sections.specs.declared.error.Error.TheVariants.{Memory}
use Rattle.linux_perf_data.specs.declared.file_reader.PerfFileReader.{PerfFileReader}
use Rattle.linux_perf_data.specs.declared.records.iter.PerfRecordIter.{PerfRecordIter}
use Rattle.linux_perf_data.specs.declared.perf_file.PerfFile.{PerfFile}
use Rattle.linux_perf_data.specs.Attribute.{Attribute, AreConsistent}
use Rattle.linux_perf_data.specs.AttributeSources.{KnownSections, known_sections, DescribesFrom}
use Rattle.linux_perf_data.specs.FeatureNumbers.{event_desc, simpleperf_meta_info}
use Rattle.linux_perf_data.specs.FeatureData.{FeatureEntry, feature_entries_in, feature_data_by}
use Rattle.linux_perf_data.specs.FileOpening.{table_offset, IsAttributesErrorWith, SourceErrorInOpening, HasHeader, IsFileHeader, IsExtraTooLong, IsUnknownMagicError}
use Rattle.linux_perf_data.specs.Layout.{RecordView, LayoutEnd, RemainingRecords, record_type_of, record_size_of, total_size_of}
use Rattle.linux_perf_data.specs.Iter.{HasRemainingRecords, iter_source_state, section_size_of}
use Rattle.linux_perf_data.specs.OpenedFile.{IsAtFirstRecord}
use Rattle.linux_perf_data.specs.PerfFile.{descriptions_of_file, features_of_file, endian_of_file, feature_data_in_file, attributes_of_file}

-- A length that a source of these bytes shows: that of a prefix, and of all bytes if the source is steady.
abbrev pub IsVisibleLength : Bool → List ℕ → ℕ → Type 0
IsVisibleLength steady all len = (len ≤ length all) × (IsTrue steady → len ≡ length all)

-- The header has a data size, and a file of this length contains the whole data section.
abbrev pub has_whole_data : PerfHeader → ℕ → Bool
has_whole_data h len = nat_lt 0 h.data_section.size && nat_le (table_offset h) len

-- The header by which the attributes are read. If neither an event types section nor simpleperf's meta info names them, the entries
-- of the attribute section are read as those of an event types section: an attribute, and the range of its ids in the last 16 bytes.
-- An entry of fewer than 80 bytes has no ids.
abbrev pub header_with_ids : PerfHeader → Bool → PerfHeader
header_with_ids h has_meta_info = cond (not (nat_eq h.event_types_section.size 0) || (has_meta_info || nat_lt h.attr_size 80)) h (record {
  magic = h.magic;
  header_size = h.header_size;
  attr_size = h.attr_size - 16;
  attr_section = h.attr_section;
  data_section = h.data_section;
  event_types_section = h.attr_section;
  features = h.features;
})

module _ (order : Endianness) where
  -- A whole record with its aux data, of any type.
  pub record IsWholeRecord (p : List ℕ) : Type 0 where
    pub min_size : 8 ≤ record_size_of order p
    pub aux_min_size : record_type_of order p ≡ auxtrace → 48 ≤ record_size_of order p
    pub exact_len : length p ≡ total_size_of order p

  -- The bytes end in a record: in its header, in what the size in the header counts, or in its aux data.
  abbrev pub IsPartialRecord : List ℕ → Type 0
  IsPartialRecord rest = (length rest < 8)
      ⊎ ((8 ≤ record_size_of order rest) × ((length rest < record_size_of order rest)
      ⊎ ((record_type_of order rest ≡ auxtrace) × (48 ≤ record_size_of order rest) × (length rest < total_size_of order rest))))

  -- The bytes start with a record whose size is too small for its header, or for the fields of an auxtrace record.
  abbrev pub HasInvalidSize : List ℕ → Type 0
  HasInvalidSize rest = (8 ≤ length rest) × ((record_size_of order rest < 8)
      ⊎ ((record_size_of order rest ≤ length rest) × (record_type_of order rest ≡ auxtrace) × (record_size_of order rest < 48)))

  -- The size of the records at the start of the bytes: of the whole records before a partial one. If a record with an invalid size
  -- follows the whole ones, it is the size of all bytes.
  pub record IsRecordsSize (bytes : List ℕ) (size : ℕ) : Type 0 where
    pub raw_records : List (List ℕ)
    pub rest : List ℕ
    pub split : bytes ≡ concat raw_records ++ rest
    pub elements : All IsWholeRecord raw_records
    pub ends : (IsPartialRecord rest × (size ≡ length (concat raw_records))) ⊎ (HasInvalidSize rest × (size ≡ length bytes))

  -- The size of the records of a file with this header, whose first `len` bytes are visible.
  abbrev pub IsDataSize : PerfHeader → List ℕ → ℕ → ℕ → Type 0
  IsDataSize h all len size = (IsTrue (has_whole_data h len) × (size ≡ h.data_section.size))
      ⊎ ((¬ IsTrue (has_whole_data h len)) × IsRecordsSize (drop h.data_section.offset (take len all)) size)

  -- The whole table entries in the first `len` bytes whose sections are in these bytes.
  abbrev pub whole_entries : PerfHeader → List ℕ → ℕ → List FeatureEntry
  whole_entries h all len = filter (λ e. nat_le e.1.size (len - e.1.offset))
      (feature_entries_in order (drop (table_offset h) all) (take ((len - table_offset h) / 16) (features_of h.features)))

  -- The entries of the features that the file has. It has none without the whole data section.
  abbrev pub whole_sections : PerfHeader → List ℕ → ℕ → List FeatureEntry
  whole_sections h all len = cond (has_whole_data h len) (whole_entries h all len) []

  -- The bytes of the sections EVENT_DESC and SIMPLEPERF_META_INFO, if the file has them.
  abbrev pub whole_sources : PerfHeader → List ℕ → ℕ → KnownSections
  whole_sources h all len =
      known_sections (feature_data_by all (whole_sections h all len) event_desc) (feature_data_by all (whole_sections h all len) simpleperf_meta_info)

  -- The header by which the attributes of the file are read.
  abbrev pub attributes_header : PerfHeader → List ℕ → ℕ → PerfHeader
  attributes_header h all len = header_with_ids h (is_some (feature_data_by all (whole_sections h all len) simpleperf_meta_info))

  -- The attributes of the file, with their ids.
  abbrev pub DescribesWhole : PerfHeader → List ℕ → ℕ → List AttributeDescription → Type 0
  DescribesWhole h all len ds = DescribesFrom order (attributes_header h all len) (whole_sources h all len) all ds

  -- The first error in the attributes of the file.
  abbrev pub IsWholeError : PerfHeader → List ℕ → ℕ → Error → Type 0
  IsWholeError h all len e = IsAttributesErrorWith order (attributes_header h all len) (whole_sources h all len) all e

-- The records of a file with this header, whose size is `size`, and how their layout ends.
abbrev pub UnfinishedRecords : Position → Endianness → PerfHeader → ℕ → List Attribute → List RecordView → LayoutEnd → Type 0
UnfinishedRecords p order h size attrs records end =
    RemainingRecords order (drop h.data_section.offset p.all_bytes) (Some size) 0 0 attrs records end

-- The first `len` bytes of the file at position `p` describe the `PerfFile`: its header, the feature sections that are complete,
-- and its attributes, which are consistent.
pub record DescribesUnfinishedFile (p : Position) (header : PerfHeader) (len : ℕ) (file : PerfFile) : Type 0 where
  pub matches : IsFileHeader p (endian_of_file file) header
  pub features : (n : ℕ) → HasFeature (features_of_file file) n ↔ ((n < 256) × IsSome (feature_data_in_file file n))
  pub sections : (n : ℕ) → feature_data_in_file file n ≡ feature_data_by p.all_bytes (whole_sections (endian_of_file file) header p.all_bytes len) n
  pub attributes : DescribesWhole (endian_of_file file) header p.all_bytes len (descriptions_of_file file)
  pub consistent : AreConsistent (attributes_of_file file)

-- The first error in opening the file after its header and its length: in the attributes.
abbrev pub IsErrorOfAttributes : Bool → Position → Error → Type 0
IsErrorOfAttributes steady p e = (order : Endianness) × ((h : PerfHeader) × ((len : ℕ) ×
    (IsFileHeader p order h × IsVisibleLength steady p.all_bytes len × IsWholeError order h p.all_bytes len e)))

-- The first error in the header of a file: it is truncated, its bytes after the first 104 can't be skipped, or its magic is that of
-- no file.
abbrev pub IsHeaderError : Position → Error → Type 0
IsHeaderError p e = (IsUnexpectedEof e × (length (drop p.offset p.all_bytes) < 104))
    ⊎ (((h : PerfHeader) × HasHeader p h × IsExtraTooLong h e) ⊎ ((h : PerfHeader) × IsUnknownMagicError p h e))

-- The first error in opening an unfinished file: in its header, or in the attributes.
abbrev pub IsUnfinishedFileError : Bool → Position → Error → Type 0
IsUnfinishedFileError steady p e = IsHeaderError p e ⊎ IsErrorOfAttributes steady p e

-- Parsing an unfinished file failed, and its source was dropped. The bytes of the file show the cause, or the source failed or
-- paused. An infallible source does neither.
pub record UnfinishedFileParseError (old : State) (e : Error) : Type 0 where
  pub final_state : State
  pub after_seek : AfterSeek old final_state
  pub cause : e ≢ Memory → IfSome old.position (λ p. IsUnfinishedFileError old.steady p e) ⊎ SourceErrorInOpening old e final_state

module _ {R : Type 0} (state : R → State) where
  -- The unfinished file at position `p` was opened. The iterator's remaining records are the whole records of the file.
  pub record UnfinishedFileOpensAt (steady : Bool) (p : Position) (file : PerfFile) (it : PerfRecordIter R) : Type 0 where
    pub header : PerfHeader
    pub len : ℕ
    pub visible : IsVisibleLength steady p.all_bytes len
    pub describes : DescribesUnfinishedFile p header len file
    pub size : ℕ
    pub data_size : IsDataSize (endian_of_file file) header p.all_bytes len size
    pub bytes : (iter_source_state state it).bytes ≡ Some (drop header.data_section.offset p.all_bytes)
    pub section_size : section_size_of state it ≡ Some size
    pub file_to_iter : (records : List RecordView) (end : LayoutEnd)
        → UnfinishedRecords p (endian_of_file file) header size (attributes_of_file file) records end
        → HasRemainingRecords state it (attributes_of_file file) records end
    pub iter_to_file : (records : List RecordView) (end : LayoutEnd) → HasRemainingRecords state it (attributes_of_file file) records end
        → UnfinishedRecords p (endian_of_file file) header size (attributes_of_file file) records end

  -- An unfinished file was parsed.
  pub record UnfinishedFileParsed (old : State) (file : PerfFile) (it : PerfRecordIter R) : Type 0 where
    pub at_first_record : IsAtFirstRecord state file it
    pub in_section : (size : ℕ) × (section_size_of state it ≡ Some size)
    pub after_seek : AfterSeek old (iter_source_state state it)
    pub file_opened : IfSome old.position (λ p. UnfinishedFileOpensAt old.steady p file it)

  abbrev pub ParsesUnfinishedFile : State → Result (PerfFileReader R) Error → Type 0
  ParsesUnfinishedFile old (Ok r) = UnfinishedFileParsed old r.perf_file r.record_iter
  ParsesUnfinishedFile old (Err e) = UnfinishedFileParseError old e
