-- The contracts of parsing a pipe: the reader on success, and the cause on error.
use Rattle.std.specs.Prelude.{◌≡◌, ◌⊎◌, ℕ, ◌<◌, ◌≤◌, List, ◌++◌, length, None, Result, Ok, Err}
use Rattle.std.specs.List.{concat}
use Rattle.perfdata_sources.specs.Source.{State, Consumed, EndedOrPaused}
use Rattle.perfdata_sources.specs.declared.endian.Endianness.{Endianness}
use Rattle.perfdata_sections.specs.declared.error.Error.{Error}
use Rattle.linux_perf_data.specs.declared.file_reader.PerfFileReader.{PerfFileReader}
use Rattle.linux_perf_data.specs.declared.records.iter.PerfRecordIter.{PerfRecordIter}
use Rattle.linux_perf_data.specs.declared.records.iter.Stage.TheVariants.{Running, Ended}
use Rattle.linux_perf_data.specs.declared.perf_file.PerfFile.{PerfFile}
use Rattle.linux_perf_data.specs.AttributeLookup.{Represents}
use Rattle.linux_perf_data.specs.Layout.{record_type_of, record_size_of}
use Rattle.linux_perf_data.specs.LateMetadata.{IsMetadataType}
use Rattle.linux_perf_data.specs.FeatureNumbers.{event_desc}
use Rattle.linux_perf_data.specs.Names.{NamedByEventDesc}
use Rattle.linux_perf_data.specs.Iter.{iter_source_state, section_size_of}
use Rattle.linux_perf_data.specs.PerfFile.{descriptions_of_file, features_of_file, endian_of_file, feature_data_in_file, attributes_of_file}
use Rattle.linux_perf_data.specs.PipeOpening.{IsPipeHeader, AreMetadata, HoldsMetadataOf, FailsBy, IsPipeError}

-- The `PerfFile` contains the metadata of these records, and its attributes are named by the last EVENT_DESC.
pub record HoldsMetadata (order : Endianness) (raw_records : List (List ℕ)) (file : PerfFile) : Type 0 where
  pub file_endian : endian_of_file file ≡ order
  pub contents : HoldsMetadataOf order raw_records (attributes_of_file file) (feature_data_in_file file) (features_of_file file)
  pub names_match : NamedByEventDesc order (feature_data_in_file file event_desc) (descriptions_of_file file)

-- The source, with its position unspecified.
abbrev pub without_position : State → State
without_position s = record { bytes = s.bytes; errors = s.errors; pauses = s.pauses; steady = s.steady; position = None }

module _ {R : Type 0} (state : R → State) where
  -- After `prefix`, the source returned the header of a record that isn't a metadata record. The iterator keeps it as pending
  -- header and starts with it.
  pub record KeepsPendingHeader (old : State) (prefix : List ℕ) (it : PerfRecordIter R) : Type 0 where
    pub stage_running : it.stage ≡ Running
    pub header_bytes : List ℕ
    pub exact_len : length header_bytes ≡ 8
    pub min_size : 8 ≤ record_size_of it.endian header_bytes
    pub not_metadata : ¬ IsMetadataType (record_type_of it.endian header_bytes)
    pub consumes_all : Consumed old (prefix ++ header_bytes) (state it.source)
    pub consumes : Consumed (without_position old) prefix (iter_source_state state it)
    pub consumes_header : Consumed (iter_source_state state it) header_bytes (without_position (state it.source))

  -- After `prefix`, the source returned fewer bytes than a header has, and ended or paused. The iterator has ended.
  pub record EndsInOpening (old : State) (prefix : List ℕ) (it : PerfRecordIter R) : Type 0 where
    pub stage_ended : it.stage ≡ Ended
    pub last_bytes : List ℕ
    pub too_few : length last_bytes < 8
    pub consumes_all : Consumed old (prefix ++ last_bytes) (state it.source)
    pub ended_or_paused : EndedOrPaused old (state it.source)

  -- A pipe was opened. The consumed bytes are its header, the metadata records of its opening, and what ended them.
  pub record PipeParsed (old : State) (file : PerfFile) (it : PerfRecordIter R) : Type 0 where
    pub offset : it.offset ≡ 0
    pub round : it.round ≡ 0
    pub section_size : section_size_of state it ≡ None
    pub same_endian : it.endian ≡ endian_of_file file
    pub represents : Represents it.endian it.attribute_lookup (attributes_of_file file)
    pub header : List ℕ
    pub raw_records : List (List ℕ)
    pub matches : IsPipeHeader it.endian header
    pub elements : AreMetadata it.endian raw_records
    pub metadata : HoldsMetadata it.endian raw_records file
    pub end_of_opening : KeepsPendingHeader old (header ++ concat raw_records) it ⊎ EndsInOpening old (header ++ concat raw_records) it

  -- Parsing a pipe failed, and its source was dropped. The consumed bytes show the cause, or the source failed or paused.
  pub record PipeParseError (old : State) (e : Error) : Type 0 where
    pub final_state : State
    pub error : FailsBy IsPipeError old e final_state

  abbrev pub ParsesPipe : State → Result (PerfFileReader R) Error → Type 0
  ParsesPipe old (Ok r) = PipeParsed old r.perf_file r.record_iter
  ParsesPipe old (Err e) = PipeParseError old e
