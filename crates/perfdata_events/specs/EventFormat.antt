-- What the bodies of one attribute's records hold, and where the fields of a record end.
use Rattle.std.specs.Prelude.{Bool, ℕ, ◌-◌, List, [], ◌∷◌, length, take, drop, if◌then◌else◌}
use Rattle.perfdata_identifiers.specs.ParseInfo.{is_set}
use Rattle.perfdata_sources.specs.declared.attr.PerfEventAttr.{PerfEventAttr}
use Rattle.perfdata_sources.specs.declared.endian.Endianness.{Endianness}
use Rattle.perfdata_events.specs.SampleFormat.{TID, TIME, ID, CPU, STREAM_ID, IDENTIFIER}
use Rattle.perfdata_events.specs.AttributeFlags.{SAMPLE_ID_ALL, recorded_flags}
use Rattle.perfdata_events.specs.Words.{words_size}
use Rattle.perfdata_events.specs.declared.fields.registers.RegisterMasks.{RegisterMasks}
use Rattle.perfdata_events.specs.declared.format.EventFormat.{EventFormat}

module _ (attr : PerfEventAttr) (order : Endianness) where
  -- The format of an attribute's records in a byte order, with or without sample_id fields after the records that aren't samples.
  abbrev pub format_with : Bool → EventFormat
  format_with has_sample_ids = record {
    endian = order;
    sample_format = record { 0 = attr.sample_format.0 };
    read_format = record { 0 = attr.read_format };
    branch_sample_type = record { 0 = attr.branch_sample_type };
    sample_regs_user = attr.sample_regs_user;
    sample_regs_intr = attr.sample_regs_intr;
    sample_id_all = has_sample_ids;
  }

  -- The format of an attribute's records.
  abbrev pub event_format_of : EventFormat
  event_format_of = format_with (is_set attr.flags.0 SAMPLE_ID_ALL)

  -- The same if a big-endian compiler laid out the flags of the attribute: bit n of the kernel's list is bit 63 - n of the word.
  abbrev pub big_endian_format_of : EventFormat
  big_endian_format_of = format_with (is_set attr.flags.0 (63 - SAMPLE_ID_ALL))

  -- The same by the flags as they are recorded in this byte order.
  abbrev pub native_format_of : EventFormat
  native_format_of = format_with (is_set (recorded_flags order attr.flags.0) SAMPLE_ID_ALL)

-- The masks of the registers in a sample.
abbrev pub register_masks_of : EventFormat → RegisterMasks
register_masks_of format = record { user = format.sample_regs_user; interrupt = format.sample_regs_intr }

-- The size of the sample_id fields at the end of a record that isn't a sample, in bytes.
abbrev pub trailing_size : EventFormat → ℕ
trailing_size format = if format.sample_id_all then words_size format.sample_format.0 (TID ∷ TIME ∷ ID ∷ STREAM_ID ∷ CPU ∷ IDENTIFIER ∷ []) else 0

-- The bytes before and after the start of the sample_id fields.
abbrev pub before_trailing : EventFormat → List ℕ → List ℕ
before_trailing format body = take (length body - trailing_size format) body

abbrev pub trailing : EventFormat → List ℕ → List ℕ
trailing format body = drop (length body - trailing_size format) body
