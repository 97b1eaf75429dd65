-- Steps of private functions: the contracts of parsing a pipe: the reader on success, and the cause on error.
use Rattle.std.specs.Prelude.{◌≡◌, ℕ, List, Option, None, Some, Result, Ok, Err}
use Rattle.perfdata_sources.specs.Source.{State}
use Rattle.perfdata_sections.specs.declared.error.Error.{Error}
use Rattle.perfdata_sections.specs.declared.error.Error.TheVariants.{Memory}
use Rattle.linux_perf_data.specs.declared.file_reader.PerfFileReader.{PerfFileReader}
use Rattle.linux_perf_data.specs.declared.records.iter.PerfRecordIter.{PerfRecordIter}
use Rattle.linux_perf_data.specs.declared.records.iter.Stage.TheVariants.{Running, Ended}
use Rattle.linux_perf_data.specs.declared.records.input.RecordInput.TheVariants.{Pipe}
use Rattle.linux_perf_data.specs.declared.pipe.opening.PipeOpening.{PipeOpening}
use Rattle.linux_perf_data.specs.Descriptions.{described_attributes}
use Rattle.linux_perf_data.specs.FeatureData.{feature_data_of}
use Rattle.linux_perf_data.specs.AttributeLookup.{Represents}
use Rattle.linux_perf_data.specs.PerfFile.{descriptions_of_file, features_of_file, endian_of_file, feature_data_in_file}

module _ {R : Type 0} (state : R → State) where
  -- The iterator after an opening. It is running if there is a pending header, and has ended otherwise.
  abbrev pub StageAfterOpening : Option (List ℕ) → PerfRecordIter R → Type 0
  StageAfterOpening None it = it.stage ≡ Ended
  StageAfterOpening (Some header) it = it.stage ≡ Running

  pub record PipeReaderBuilt (source : R) (opening : PipeOpening) (r : PerfFileReader R) : Type 0 where
    pub same_source : r.record_iter.source ≡ source
    pub input : r.record_iter.input ≡ Pipe opening.pending_header
    pub stage : StageAfterOpening opening.pending_header r.record_iter
    pub offset : r.record_iter.offset ≡ 0
    pub round : r.record_iter.round ≡ 0
    pub same_endian : r.record_iter.endian ≡ opening.perf_file.endian
    pub represents : Represents opening.perf_file.endian r.record_iter.attribute_lookup (described_attributes opening.perf_file.attributes.items)
    pub file_endian : endian_of_file r.perf_file ≡ opening.perf_file.endian
    pub features : features_of_file r.perf_file ≡ opening.perf_file.features
    pub sections : (n : ℕ) → feature_data_in_file r.perf_file n ≡ feature_data_of opening.perf_file.sections n
    pub attributes : descriptions_of_file r.perf_file ≡ opening.perf_file.attributes.items

  -- Builds a reader from an opening. The error is `Memory`.
  abbrev pub BuildsPipeReader : R → PipeOpening → Result (PerfFileReader R) Error → Type 0
  BuildsPipeReader source opening (Ok r) = PipeReaderBuilt source opening r
  BuildsPipeReader source opening (Err e) = e ≡ Memory
