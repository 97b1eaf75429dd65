-- The parsed records of events.
use Rattle.std.specs.Prelude.{◌≡◌, ◌⊎◌, ℕ, List, slice_get, Option, None, Some}
use Rattle.std.specs.Option.{option_map}
use Rattle.std.specs.declared.io.ErrorKind.{ErrorKind}
use Rattle.perfdata_base.specs.declared.event.raw_event_record.RawEventRecord.{RawEventRecord}
use Rattle.perfdata_identifiers.specs.declared.place.parse_info.RecordParseInfo.{RecordParseInfo}
use Rattle.perfdata_sources.specs.declared.endian.Endianness.{Endianness}
use Rattle.linux_perf_data.specs.Attribute.{Attribute, EventRef}
use Rattle.linux_perf_data.specs.Layout.{RecordView}
use Rattle.linux_perf_data.specs.RecordEntries.{attr_index_or_zero}
use Rattle.perfdata_events.specs.Event.{IsParsed, ParseFails}
use Rattle.perfdata_events.specs.EventFormat.{native_format_of}
use Rattle.perfdata_events.specs.declared.format.EventFormat.{EventFormat}
use Rattle.perfdata_arrays.specs.Entries.{IsRawOf}
use Rattle.perfdata_stack_arrays.specs.Event.{Event}

module _ (order : Endianness) (attrs : List Attribute) where
  -- The format of the records of an event. A big-endian compiler laid out the flags of a big-endian recording.
  abbrev pub format_in : Option EventRef → Option EventFormat
  format_in None = None
  format_in (Some event) = option_map (λ a. native_format_of a.attr order) (slice_get attrs event.index)

  -- The format of the records of the attribute with an index, if there is one.
  abbrev pub IsFormatAt : ℕ → Option EventFormat → Type 0
  IsFormatAt index format = (places : RecordParseInfo) → format_in (Some (record { index = index; parse_info = places })) ≡ format

  -- The record is parsed by the format of its attribute.
  pub record ParsesEvent (h : RecordView) (event : Event) : Type 0 where
    pub format : EventFormat
    pub format_is : format_in h.event ≡ Some format
    pub raw : RawEventRecord
    pub raw_is : IsRawOf h raw
    pub is_parsed : IsParsed format raw event.parsed
    pub offset_is : event.envelope.offset ≡ h.offset
    pub attr_index_is : event.envelope.attr_index ≡ attr_index_or_zero h.event
    pub misc_is : event.envelope.misc ≡ h.misc

  -- The record can't be parsed by the format of its attribute.
  pub record FailsToParse (h : RecordView) : Type 0 where
    pub format : EventFormat
    pub format_is : format_in h.event ≡ Some format
    pub raw : RawEventRecord
    pub raw_is : IsRawOf h raw
    pub kind : ErrorKind
    pub fails : ParseFails format raw kind

  -- The parsed record; none if it belongs to no attribute or can't be parsed.
  abbrev pub IsEventOf : RecordView → Option Event → Type 0
  IsEventOf h None = (format_in h.event ≡ None) ⊎ FailsToParse h
  IsEventOf h (Some event) = ParsesEvent h event
