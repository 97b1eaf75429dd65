-- What the bodies of single records say: samples, tasks, mappings and counter values, as the arrays of whole inputs have them.
use Rattle.std.specs.Prelude.{◌≡◌, ◌≢◌, ◌⊎◌, ℕ, Bool, true, false, List, [], length}
use Rattle.std.specs.Option.{unwrap_or}
use Rattle.std.specs.declared.io.ErrorKind.{ErrorKind}
use Rattle.perfdata_sources.specs.Raw.{bytes_of}
use Rattle.perfdata_sources.specs.declared.endian.Endianness.{Endianness}
use Rattle.perfdata_identifiers.specs.ParseInfo.{is_set}
use Rattle.perfdata_base.specs.declared.event.raw_event_record.RawEventRecord.{RawEventRecord}
use Rattle.perfdata_events.specs.Event.{IsParsed, ParseFails}
use Rattle.perfdata_events.specs.SampleFormat.{READ}
use Rattle.perfdata_events.specs.declared.event.EventRecord.{EventRecord}
use Rattle.perfdata_events.specs.declared.format.EventFormat.{EventFormat}
use Rattle.linux_perf_data.specs.RecordEntries.{with_prefix}
use Rattle.linux_perf_data.specs.declared.in_memory.entries.RecordEntry.{RecordEntry}
use Rattle.perfdata_arrays.specs.Bodies.{IsBody}
use Rattle.perfdata_arrays.specs.Counters.{event_counters}
use Rattle.perfdata_arrays.specs.Mappings.{event_mapping}
use Rattle.perfdata_arrays.specs.SampleRecords.{frames_of_body, saturated}
use Rattle.perfdata_arrays.specs.Samples.{sample_of}
use Rattle.perfdata_arrays.specs.Status.{io_kind_status}
use Rattle.perfdata_arrays.specs.Tasks.{event_task}
use Rattle.perfdata_arrays.specs.declared.attrs.Attr.{Attr}
use Rattle.perfdata_arrays.specs.declared.counters.CounterEntry.{CounterEntry}
use Rattle.perfdata_arrays.specs.declared.envelope.EntryEnvelope.{EntryEnvelope}
use Rattle.perfdata_arrays.specs.declared.mappings.MappingEntry.{MappingEntry}
use Rattle.perfdata_arrays.specs.declared.samples.body.SampleBody.{SampleBody}
use Rattle.perfdata_arrays.specs.declared.samples.frame.FrameEntry.{FrameEntry}
use Rattle.perfdata_arrays.specs.declared.samples.sample.Sample.{Sample}
use Rattle.perfdata_arrays.specs.declared.samples.sample.SampleEnvelope.{SampleEnvelope}
use Rattle.perfdata_arrays.specs.declared.status.Status.{Status}
use Rattle.perfdata_arrays.specs.declared.status.Status.TheVariants.{Success}
use Rattle.perfdata_arrays.specs.declared.tasks.TaskEntry.{TaskEntry}
use Rattle.perfdata_chunks.specs.SingleRecords.{HasRecord, IsMissing}
use Rattle.perfdata_chunks.specs.declared.events.EventResult.{EventResult}

-- What a call writes into.
pub record EventArrays : Type 0 where
  pub sample : Sample
  pub frames : List FrameEntry
  pub task : TaskEntry
  pub mapping : MappingEntry
  pub counters : List CounterEntry

-- what an entry has beside the fields of its record's body
abbrev pub envelope_of_entry : RecordEntry → EntryEnvelope
envelope_of_entry entry = record {
  offset = entry.offset;
  timestamp = entry.timestamp;
  body_offset = entry.body_offset;
  misc = entry.misc;
}

-- What a sample has beside the fields of its body. Its frames, of which there are this many, start at the first element.
abbrev pub sample_envelope : RecordEntry → ℕ → SampleEnvelope
sample_envelope entry frames_count = record {
  offset = entry.offset;
  attr_index = saturated entry.attr_index;
  misc = entry.misc;
  frames_start = 0;
  frames_count = saturated frames_count;
}

-- The sample with this body, and its frames.
pub record IsSampleOf (format : EventFormat) (raw : RawEventRecord) (entry : RecordEntry) (sample : Sample) (frames : List FrameEntry) : Type 0 where
  pub body : SampleBody
  pub body_is : IsBody format (bytes_of raw.body) body
  pub frames_are : frames ≡ frames_of_body true body
  pub sample_is : sample ≡ sample_of (sample_envelope entry (length frames)) format body

-- The counter values of a sample: none if its attribute selects none, or if its body can't be parsed.
abbrev pub AreSampleValues : EventFormat → RawEventRecord → RecordEntry → List CounterEntry → Type 0
AreSampleValues format raw entry values =
    ((is_set format.sample_format.0 READ ≡ false) × (values ≡ []))
    ⊎ (((is_set format.sample_format.0 READ ≡ true)
    × ((event : EventRecord) × IsParsed format raw event × (values ≡ event_counters (envelope_of_entry entry) event)))
    ⊎ ((is_set format.sample_format.0 READ ≡ true) × ((kind : ErrorKind) × ParseFails format raw kind) × (values ≡ [])))

-- A sample is written, its frames, and its counter values. All of these are counted.
pub record ReadsSample (format : EventFormat) (raw : RawEventRecord) (entry : RecordEntry) (old : EventArrays) (result : EventResult) (new : EventArrays)
    : Type 0 where
  pub frames : List FrameEntry
  pub sample_is : IsSampleOf format raw entry new.sample frames
  pub frames_written : new.frames ≡ with_prefix frames old.frames
  pub frames_count_is : result.frames_count ≡ length frames
  pub values : List CounterEntry
  pub values_are : AreSampleValues format raw entry values
  pub counters_written : new.counters ≡ with_prefix values old.counters
  pub counters_count_is : result.counters_count ≡ length values
  pub task_unchanged : new.task ≡ old.task
  pub mapping_unchanged : new.mapping ≡ old.mapping
  pub status_is : result.status ≡ Success

-- The parsed record is written: a task, a mapping, or counter values, all of which are counted. What it isn't is unchanged.
pub record ReadsParsed (format : EventFormat) (raw : RawEventRecord) (entry : RecordEntry) (old : EventArrays) (result : EventResult) (new : EventArrays)
    : Type 0 where
  pub event : EventRecord
  pub is_parsed : IsParsed format raw event
  pub task_is : new.task ≡ unwrap_or (event_task (envelope_of_entry entry) event) old.task
  pub mapping_is : new.mapping ≡ unwrap_or (event_mapping (envelope_of_entry entry) event) old.mapping
  pub counters_written : new.counters ≡ with_prefix (event_counters (envelope_of_entry entry) event) old.counters
  pub counters_count_is : result.counters_count ≡ length (event_counters (envelope_of_entry entry) event)
  pub sample_unchanged : new.sample ≡ old.sample
  pub frames_unchanged : new.frames ≡ old.frames
  pub frames_count_is : result.frames_count ≡ 0
  pub status_is : result.status ≡ Success

-- Nothing is written, and both numbers are 0.
abbrev pub WritesNoEvent : EventArrays → EventResult → EventArrays → Type 0
WritesNoEvent old result new = (new ≡ old) × (result.frames_count ≡ 0) × (result.counters_count ≡ 0)

-- The result for a record with this format.
abbrev pub ReadsBody : EventFormat → RawEventRecord → RecordEntry → EventArrays → EventResult → EventArrays → Type 0
ReadsBody format raw entry old result new =
    ((entry.record_type ≡ 9) × ReadsSample format raw entry old result new)
    ⊎ (((entry.record_type ≢ 9) × ReadsParsed format raw entry old result new)
    ⊎ ((entry.record_type ≢ 9) × WritesNoEvent old result new
    × ((kind : ErrorKind) × ParseFails format raw kind × (result.status ≡ io_kind_status kind))))

-- The result for the record with an entry.
abbrev pub ReadsEvent : Endianness → List ℕ → List Attr → RecordEntry → EventArrays → EventResult → EventArrays → Type 0
ReadsEvent order chunk attrs entry old result new =
    (IsMissing chunk attrs entry result.status × WritesNoEvent old result new)
    ⊎ ((format : EventFormat) × ((raw : RawEventRecord) × HasRecord order chunk attrs entry format raw × ReadsBody format raw entry old result new))
