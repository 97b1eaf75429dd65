-- The fields of a record as the reader returns it, whether the kernel or a tool wrote it.
use Rattle.std.specs.Prelude.{ℕ, Option, None, Some}
use Rattle.perfdata_sources.specs.declared.raw.RawData.{RawData}
use Rattle.perfdata_records.specs.UserRecordType.{user_type_number}
use Rattle.perfdata_records.specs.declared.record.PerfFileRecord.{PerfFileRecord}
use Rattle.perfdata_records.specs.declared.record.PerfFileRecord.TheVariants.{EventRecord, UserRecord}

-- The number of the record's type.
abbrev pub file_record_type : PerfFileRecord → ℕ
file_record_type (EventRecord index event) = event.record_type.0
file_record_type (UserRecord user) = user_type_number user.record_type

-- The `misc` field of the record header.
abbrev pub file_record_misc : PerfFileRecord → ℕ
file_record_misc (EventRecord index event) = event.misc
file_record_misc (UserRecord user) = user.misc

-- The bytes after the record header, including aux data.
abbrev pub file_record_body : PerfFileRecord → RawData
file_record_body (EventRecord index event) = event.body
file_record_body (UserRecord user) = user.body

-- The index of the attribute of the record's event, or `None` if a tool wrote the record.
abbrev pub file_record_attr_index : PerfFileRecord → Option ℕ
file_record_attr_index (EventRecord index event) = Some index
file_record_attr_index (UserRecord user) = None
