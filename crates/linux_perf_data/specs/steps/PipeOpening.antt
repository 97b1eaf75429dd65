-- Steps of private functions: the opening of a perf.data pipe: its header and the metadata records after it. Also the first error in an opening.
use Rattle.std.specs.Prelude.{◌≡◌, ℕ, ◌-◌, ◌<◌, List, length, Result, Ok, Err}
use Rattle.perfdata_sources.specs.Source.{State}
use Rattle.perfdata_sources.specs.declared.endian.Endianness.{Endianness}
use Rattle.perfdata_sections.specs.declared.error.Error.{Error}
use Rattle.linux_perf_data.specs.Attribute.{AreConsistent}
use Rattle.linux_perf_data.specs.Descriptions.{described_attributes}
use Rattle.linux_perf_data.specs.FeatureNumbers.{event_desc}
use Rattle.linux_perf_data.specs.Names.{NamedByEventDesc}
use Rattle.linux_perf_data.specs.FeatureData.{feature_data_of}
use Rattle.linux_perf_data.specs.declared.pipe.opening.PipeOpening.{PipeOpening}
use Rattle.linux_perf_data.specs.PipeOpening.{feature_data_in, IsPipeError, FailsBy, OpeningRead, HoldsMetadataOf}

-- The opening contains the metadata of the records.
pub record HoldsPipeMetadata (order : Endianness) (pieces : List (List ℕ)) (opening : PipeOpening) : Type 0 where
  pub endian : opening.perf_file.endian ≡ order
  pub contents : HoldsMetadataOf order pieces (described_attributes opening.perf_file.attributes.items)
      (feature_data_of opening.perf_file.sections) opening.perf_file.features
  pub names_match : NamedByEventDesc order (feature_data_in order pieces event_desc) opening.perf_file.attributes.items
  pub nonempty : 0 < length opening.perf_file.attributes.items
  pub consistent : AreConsistent (described_attributes opening.perf_file.attributes.items)

-- A pipe was opened.
pub record PipeOpened (old : State) (opening : PipeOpening) (new : State) : Type 0 where
  pub raw_records : List (List ℕ)
  pub opening_read : OpeningRead opening.perf_file.endian raw_records opening.pending_header old new
  pub metadata : HoldsPipeMetadata opening.perf_file.endian raw_records opening

abbrev pub OpensPerfPipe : State → Result PipeOpening Error → State → Type 0
OpensPerfPipe old (Ok opening) new = PipeOpened old opening new
OpensPerfPipe old (Err e) new = FailsBy IsPipeError old e new
