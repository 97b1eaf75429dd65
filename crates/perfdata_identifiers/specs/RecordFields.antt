-- The time and the identifier of a record.
use Rattle.std.specs.Prelude.{ℕ, Bool, List, if◌then◌else◌, Option, None, Some}
use Rattle.perfdata_identifiers.specs.BodyFields.{u64_field_at}
use Rattle.perfdata_sources.specs.declared.endian.Endianness.{Endianness}
use Rattle.perfdata_identifiers.specs.declared.place.parse_info.RecordIdParseInfo.{RecordIdParseInfo}
use Rattle.perfdata_identifiers.specs.declared.place.parse_info.RecordParseInfo.{RecordParseInfo}

-- the time of a record in a byte order, at the offset from its attribute
abbrev pub time_in : Endianness → RecordParseInfo → ℕ → List ℕ → Option ℕ
time_in order places kind body = u64_field_at order places.sample_time_from_start places.other_time_from_end kind body

-- the time in the byte order of the parse info
abbrev pub read_time : RecordParseInfo → ℕ → List ℕ → Option ℕ
read_time places kind body = time_in places.endian places kind body

-- the identifier of a record
abbrev pub read_identifier : Endianness → RecordIdParseInfo → ℕ → List ℕ → Option ℕ
read_identifier order places kind body = u64_field_at order places.sample_id_from_start places.other_id_from_end kind body

-- the identifier of a record in an input whose records all have the field IDENTIFIER: at the start of a sample, and at the end of
-- another kernel record if records have trailing fields
abbrev pub leading_identifier_of : Endianness → Bool → ℕ → List ℕ → Option ℕ
leading_identifier_of order trailing kind body = u64_field_at order (Some 0) (if trailing then Some 8 else None) kind body
