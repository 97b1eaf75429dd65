-- Steps of private functions: the line of a record.
use Rattle.std.specs.Prelude.{◌≡◌, ℕ, List, Option, None, slice_get}
use Rattle.std.specs.Option.{option_map}
use Rattle.perfdata_sources.specs.declared.endian.Endianness.{Endianness}
use Rattle.perfdata_sections.specs.AttributeDescription.{attr_in, name_in}
use Rattle.perfdata_sections.specs.declared.feature_sections.AttributeDescription.{AttributeDescription}
use Rattle.perfdata_events.specs.EventFormat.{native_format_of}
use Rattle.perfdata_events.specs.declared.format.EventFormat.{EventFormat}
use Rattle.linux_perf_data.specs.Layout.{RecordView}
use Rattle.perfdata_json.specs.declared.line.Envelope.{Envelope}

-- The members of a line that don't depend on the attribute are those of this record. The sample_id fields are absent.
pub record HasMembersOf (h : RecordView) (line : Envelope) : Type 0 where
  pub offset : line.place.offset ≡ h.offset
  pub round : line.place.round ≡ h.round
  pub time : line.place.timestamp ≡ h.timestamp
  pub attr_index : line.attr_index ≡ option_map (λ event. event.index) h.event
  pub record_type : line.record_type ≡ h.record_type
  pub misc : line.misc ≡ h.misc
  pub no_sample_id : line.sample_id ≡ None

-- The name of the event of the attribute with this index; `None` if there is no such attribute.
abbrev pub name_at : List AttributeDescription → ℕ → Option (Option (List ℕ))
name_at attributes index = option_map name_in (slice_get attributes index)

-- The format of the records of the attribute with this index, in a byte order.
abbrev pub format_at : List AttributeDescription → ℕ → Endianness → Option EventFormat
format_at attributes index endian = option_map (λ d. native_format_of (attr_in d) endian) (slice_get attributes index)
