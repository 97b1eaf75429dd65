-- The number of a user record type.
use Rattle.std.specs.Prelude.{ℕ}
use Rattle.perfdata_records.specs.declared.record.UserRecordType.{UserRecordType}

-- The number of the type as a `RecordType`.
abbrev pub user_type_number : UserRecordType → ℕ
user_type_number t = t.record_type.0
