-- A record as the caller sees it, and how an iterator identifies a record.
use Rattle.std.specs.Prelude.{ℕ, List, Option, None, Some}
use Rattle.perfdata_sources.specs.Raw.{bytes_of}
use Rattle.perfdata_sources.specs.declared.endian.Endianness.{Endianness}
use Rattle.perfdata_identifiers.specs.declared.place.parse_info.RecordParseInfo.{RecordParseInfo}
use Rattle.perfdata_records.specs.declared.record.PerfFileRecord.{PerfFileRecord}
use Rattle.perfdata_records.specs.declared.record.PerfFileRecord.TheVariants.{EventRecord, UserRecord}
use Rattle.perfdata_records.specs.UserRecordType.{user_type_number}
use Rattle.linux_perf_data.specs.declared.records.iter.RecordPlace.{RecordPlace}
use Rattle.linux_perf_data.specs.declared.records.iter.IdentifiedRecord.{IdentifiedRecord}
use Rattle.linux_perf_data.specs.declared.records.iter.RecordOrigin.{RecordOrigin}
use Rattle.linux_perf_data.specs.declared.records.iter.RecordOrigin.TheVariants.{Kernel, User}
use Rattle.linux_perf_data.specs.declared.attributes.lookup.AttributeLookup.{AttributeLookup}
use Rattle.linux_perf_data.specs.Attribute.{EventRef}
use Rattle.linux_perf_data.specs.AttributeLookup.{parse_info_at}
use Rattle.linux_perf_data.specs.Layout.{RecordView}

-- The view of a returned record: its fields as the layout gives them.
abbrev pub record_view_of : RecordPlace → PerfFileRecord → RecordView
record_view_of p (EventRecord index r) = record {
  offset = p.offset;
  round = p.round;
  record_type = r.record_type.0;
  misc = r.misc;
  endian = r.parse_info.endian;
  body = bytes_of r.body;
  event = Some (record { index = index; parse_info = r.parse_info });
  timestamp = p.timestamp;
}
record_view_of p (UserRecord r) = record {
  offset = p.offset;
  round = p.round;
  record_type = user_type_number r.record_type;
  misc = r.misc;
  endian = r.endian;
  body = bytes_of r.body;
  event = None;
  timestamp = p.timestamp;
}

-- The attribute index of a record; 0 if a tool wrote it.
abbrev pub attr_index_by_origin : RecordOrigin → ℕ
attr_index_by_origin (Kernel index) = index
attr_index_by_origin (User t) = 0

abbrev pub event_by_origin : RecordParseInfo → RecordOrigin → Option EventRef
event_by_origin places (Kernel index) = Some (record { index = index; parse_info = places })
event_by_origin places (User t) = None

abbrev pub record_type_by_origin : RecordOrigin → ℕ → ℕ
record_type_by_origin (Kernel index) kind = kind
record_type_by_origin (User t) kind = user_type_number t

abbrev pub endian_by_origin : RecordParseInfo → RecordOrigin → Endianness → Endianness
endian_by_origin places (Kernel index) order = places.endian
endian_by_origin places (User t) order = order

-- The view of an identified record, with the parse info of its attribute, the byte order of the input and the buffered body.
abbrev pub record_view_at : RecordParseInfo → IdentifiedRecord → Endianness → List ℕ → RecordView
record_view_at places f order body = record {
  offset = f.place.offset;
  round = f.place.round;
  record_type = record_type_by_origin f.origin f.record_type.0;
  misc = f.misc;
  endian = endian_by_origin places f.origin order;
  body = body;
  event = event_by_origin places f.origin;
  timestamp = f.place.timestamp;
}

-- The same, with the parse info from the attribute lookup.
abbrev pub record_view_with : AttributeLookup → IdentifiedRecord → Endianness → List ℕ → RecordView
record_view_with lookup f order body = record_view_at (parse_info_at lookup (attr_index_by_origin f.origin)) f order body
