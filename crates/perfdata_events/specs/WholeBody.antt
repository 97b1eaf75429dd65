-- The bytes of a body: the fields of the record, in order, then padding, then the sample_id fields.
use Rattle.std.specs.Prelude.{◌≡◌, ℕ, ◌++◌, List, length, ⊤}
use Rattle.perfdata_sources.specs.Raw.{bytes_of}
use Rattle.perfdata_base.specs.declared.event.raw_event_record.RawEventRecord.{RawEventRecord}
use Rattle.perfdata_events.specs.Format.{encodes}
use Rattle.perfdata_events.specs.EventFormat.{trailing_size, trailing}
use Rattle.perfdata_events.specs.Sample.{sample, sample_of}
use Rattle.perfdata_events.specs.Event.{IsEvent, number}
use Rattle.perfdata_events.specs.declared.format.EventFormat.{EventFormat}
use Rattle.perfdata_events.specs.declared.sample.SampleRecord.{SampleRecord}
use Rattle.perfdata_events.specs.declared.event.EventRecord.{EventRecord}
use Rattle.perfdata_events.specs.declared.event.EventRecord.TheVariants.{Sample, Raw}

module _ (format : EventFormat) (raw : RawEventRecord) where
  -- Before the padding the fields spell the event and leave the padding. The sample_id fields, of their size, end the body.
  pub record IsWhole (event : EventRecord) : Type 0 where
    pub fields : List ℕ
    pub padding : List ℕ
    pub bytes_are : bytes_of raw.body ≡ fields ++ (padding ++ trailing format (bytes_of raw.body))
    pub ids_size : length (trailing format (bytes_of raw.body)) ≡ trailing_size format
    pub fields_are : IsEvent format raw (fields ++ padding) event padding

  -- A sample has no sample_id fields.
  pub record IsWholeSample (event : SampleRecord) : Type 0 where
    pub fields : List ℕ
    pub padding : List ℕ
    pub bytes_are : bytes_of raw.body ≡ fields ++ padding
    pub fields_are : sample (number format raw) format (fields ++ padding) (encodes (sample_of event) padding)

  -- Nothing is said of the body of a record that isn't parsed.
  abbrev pub IsWholeBody : EventRecord → Type 0
  IsWholeBody (Sample v) = IsWholeSample v
  IsWholeBody (Raw v) = ⊤
  IsWholeBody event = IsWhole event
