-- The entries of the records of one kind, as plain numbers.
use Rattle.std.specs.Prelude.{◌≡◌, ◌⊎◌, ℕ, ◌+◌, ◌<◌, Bool, true, false, List, [], ◌∷◌, length, Option, None, Some}
use Rattle.std.specs.declared.io.ErrorKind.{ErrorKind}
use Rattle.perfdata_sources.specs.Raw.{bytes_of}
use Rattle.perfdata_base.specs.declared.event.raw_event_record.RawEventRecord.{RawEventRecord}
use Rattle.perfdata_sources.specs.declared.endian.Endianness.{Endianness}
use Rattle.linux_perf_data.specs.Attribute.{Attribute}
use Rattle.linux_perf_data.specs.Layout.{RecordView}
use Rattle.linux_perf_data.specs.RecordEntries.{or_zero}
use Rattle.perfdata_events.specs.Event.{IsParsed, ParseFails}
use Rattle.perfdata_events.specs.declared.event.EventRecord.{EventRecord}
use Rattle.perfdata_events.specs.declared.format.EventFormat.{EventFormat}
use Rattle.perfdata_arrays.specs.Decoding.{EntryKind}
use Rattle.perfdata_arrays.specs.SampleRecords.{format_of_event}
use Rattle.perfdata_arrays.specs.declared.envelope.EntryEnvelope.{EntryEnvelope}

-- a raw record with these fields
pub record IsRawOf (h : RecordView) (raw : RawEventRecord) : Type 0 where
  pub record_type : raw.record_type.0 ≡ h.record_type
  pub misc : raw.misc ≡ h.misc
  pub body : bytes_of raw.body ≡ h.body

-- What an entry has beside the fields of its record's body, which is after the record header.
abbrev pub entry_envelope : ℕ → RecordView → EntryEnvelope
entry_envelope base h = record {
  offset = h.offset;
  timestamp = or_zero h.timestamp;
  body_offset = base + h.offset + 8;
  misc = h.misc;
}

-- the record can't be parsed by the format of its attribute
pub record FailsToParse (order : Endianness) (attrs : List Attribute) (h : RecordView) : Type 0 where
  pub format : EventFormat
  pub format_is : format_of_event order attrs h.event ≡ Some format
  pub raw : RawEventRecord
  pub raw_is : IsRawOf h raw
  pub kind : ErrorKind
  pub fails : ParseFails format raw kind

module _ {E : Type 0} (has_type : ℕ → Bool) (entries_of : EntryEnvelope → EventRecord → List E) (order : Endianness) (attrs : List Attribute) (base : ℕ)
    (h : RecordView) where
  -- the record is parsed by the format of its attribute, and these are its entries
  pub record ParsesEntries (entries : List E) : Type 0 where
    pub format : EventFormat
    pub format_is : format_of_event order attrs h.event ≡ Some format
    pub raw : RawEventRecord
    pub raw_is : IsRawOf h raw
    pub parsed : EventRecord
    pub is_parsed : IsParsed format raw parsed
    pub entries_are : entries ≡ entries_of (entry_envelope base h) parsed

  -- The entries of a record: if it is of one of the types, belongs to an attribute, and can be parsed. The first record of the input is at
  -- offset `base`.
  abbrev pub HasEntries : List E → Type 0
  HasEntries entries = ((has_type h.record_type ≡ true) × ParsesEntries entries)
      ⊎ ((entries ≡ []) × ((has_type h.record_type ≡ false) ⊎ ((format_of_event order attrs h.event ≡ None) ⊎ FailsToParse order attrs h)))

-- ---- kinds of entries

abbrev pub list_of : {E : Type 0} → Option E → List E
list_of None = []
list_of (Some entry) = entry ∷ []

-- Entries of parsed records, which have no frames. If those of a record don't fit, their number is reported. If no record has more than
-- one, each fits in an array that isn't full.
abbrev pub event_kind : {E : Type 0} → (ℕ → Bool) → (EntryEnvelope → EventRecord → List E) → Bool → EntryKind E (Unit {0})
event_kind has_type entries_of is_single = record {
  Adds = λ wants order attrs base used h entries frames. HasEntries has_type entries_of order attrs base h entries × (frames ≡ []);
  Exceeds = λ capacity frames_capacity count used entries frames needed. (needed.entries ≡ length entries) × (needed.frames ≡ 0)
      × (capacity < count + length entries);
  AlwaysFits = λ frames_capacity. is_single ≡ true;
  after_frames = λ count entry. entry;
}
