-- The body and the attribute of a record, by its entry.
use Rattle.std.specs.Prelude.{◌≡◌, ◌⊎◌, ℕ, ◌+◌, ◌≤◌, ◌<◌, List, length, take, drop, slice_get, Some}
use Rattle.perfdata_sources.specs.Raw.{bytes_of}
use Rattle.perfdata_sources.specs.declared.attr.PerfEventAttr.{PerfEventAttr}
use Rattle.perfdata_sources.specs.declared.endian.Endianness.{Endianness}
use Rattle.perfdata_base.specs.declared.event.raw_event_record.RawEventRecord.{RawEventRecord}
use Rattle.perfdata_events.specs.EventFormat.{event_format_of}
use Rattle.perfdata_events.specs.declared.format.EventFormat.{EventFormat}
use Rattle.perfdata_sections.specs.AttributeDescription.{attr_in}
use Rattle.perfdata_sections.specs.declared.feature_sections.AttributeDescription.{AttributeDescription}
use Rattle.linux_perf_data.specs.declared.in_memory.entries.RecordEntry.{RecordEntry}
use Rattle.perfdata_arrays.specs.Attrs.{attr_entry_at}
use Rattle.perfdata_arrays.specs.declared.attrs.Attr.{Attr}
use Rattle.perfdata_arrays.specs.declared.status.Status.{Status}
use Rattle.perfdata_arrays.specs.declared.status.Status.TheVariants.{NoAttributes, TruncatedRecord}

-- The attribute of an entry, with zeros for the fields that say nothing of the bodies of records.
abbrev pub attr_of : Attr → PerfEventAttr
attr_of attr = record {
  type_ = attr.type_;
  size = attr.size;
  config = attr.config;
  period_or_freq = 0;
  sample_format = record { 0 = attr.sample_type };
  read_format = attr.read_format;
  flags = record { 0 = attr.flags };
  wakeup = 0;
  bp_type = 0;
  config1 = 0;
  config2 = 0;
  branch_sample_type = attr.branch_sample_type;
  sample_regs_user = attr.sample_regs_user;
  sample_stack_user = attr.sample_stack_user;
  clockid = attr.clockid;
  sample_regs_intr = attr.sample_regs_intr;
  aux_watermark = 0;
  sample_max_stack = 0;
  aux_sample_size = 0;
  sig_data = 0;
  config3 = 0;
}

-- the format of the records of an attribute
abbrev pub format_of : Endianness → Attr → EventFormat
format_of order attr = event_format_of (attr_of attr) order

-- the body of a record, whose offset counts from the start of the chunk
abbrev pub body_in : List ℕ → RecordEntry → List ℕ
body_in chunk entry = take entry.body_size (drop entry.body_offset chunk)

-- The chunk has the body of the record, and the array its attribute. They are these.
pub record HasRecord (order : Endianness) (chunk : List ℕ) (attrs : List Attr) (entry : RecordEntry) (format : EventFormat) (raw : RawEventRecord)
    : Type 0 where
  pub attr : Attr
  pub attr_is : slice_get attrs entry.attr_index ≡ Some attr
  pub format_is : format ≡ format_of order attr
  pub within : entry.body_offset + entry.body_size ≤ length chunk
  pub type_is : raw.record_type.0 ≡ entry.record_type
  pub misc_is : raw.misc ≡ entry.misc
  pub body_is : bytes_of raw.body ≡ body_in chunk entry

-- The body isn't in the chunk, or it is and the attribute isn't in the array. The status says which.
abbrev pub IsMissing : List ℕ → List Attr → RecordEntry → Status → Type 0
IsMissing chunk attrs entry status =
    ((status ≡ TruncatedRecord) × (length chunk < entry.body_offset + entry.body_size))
    ⊎ ((status ≡ NoAttributes) × (entry.body_offset + entry.body_size ≤ length chunk) × (length attrs ≤ entry.attr_index))

-- ---- laws

-- The format by the entry of an attribute is that of the attribute, by which whole inputs are decoded.
abbrev pub EntriesKeepFormats : Type 0
EntriesKeepFormats = (order : Endianness) (names ids : ℕ) (d : AttributeDescription)
    → format_of order (attr_entry_at names ids d) ≡ event_format_of (attr_in d) order
