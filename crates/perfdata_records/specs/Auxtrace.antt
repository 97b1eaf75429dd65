-- The body of an auxtrace record: eight bytes each for the size of the aux data, its offset in the complete aux data and a
-- reference, four bytes each for an index, the thread, the CPU and a reserved number, and then exactly the aux data.
use Rattle.std.specs.Prelude.{◌≡◌, ◌≢◌, ℕ, ◌+◌, ◌<◌, ◌≤◌, ◌⊎◌, List, length, drop}
use Rattle.std.specs.IoError.{error_kind}
use Rattle.std.specs.declared.io.Error.{Error}
use Rattle.std.specs.declared.io.ErrorKind.TheVariants.{UnexpectedEof, InvalidData}
use Rattle.perfdata_sources.specs.Raw.{bytes_of}
use Rattle.perfdata_sources.specs.Endian.{number_in}
use Rattle.perfdata_sources.specs.declared.endian.Endianness.{Endianness}
use Rattle.perfdata_sections.specs.RecordTypes.{auxtrace}
use Rattle.perfdata_records.specs.declared.auxtrace.Auxtrace.{Auxtrace}

module _ (number : ℕ → List ℕ → ℕ) where
  -- The size of the aux data after the 40 bytes is that in the body.
  abbrev pub HoldsAuxtrace : List ℕ → Type 0
  HoldsAuxtrace body = length body ≡ 40 + number 8 body

  -- The body is that of this auxtrace record.
  pub record IsAuxtrace (body : List ℕ) (parsed : Auxtrace) : Type 0 where
    pub exact_len : HoldsAuxtrace body
    pub size : parsed.size ≡ number 8 body
    pub offset : parsed.offset ≡ number 8 (drop 8 body)
    pub reference : parsed.reference ≡ number 8 (drop 16 body)
    pub index : parsed.index ≡ number 4 (drop 24 body)
    pub tid : parsed.tid ≡ number 4 (drop 28 body)
    pub cpu : parsed.cpu ≡ number 4 (drop 32 body)
    pub aux_data : bytes_of parsed.aux_data ≡ drop 40 body

  -- The body is invalid, and this is the error: the 40 bytes are truncated, or the size of the aux data differs from that in the
  -- body.
  abbrev pub IsAuxtraceError : List ℕ → Error → Type 0
  IsAuxtraceError body e =
      ((length body < 40) × (error_kind e ≡ UnexpectedEof))
      ⊎ ((40 ≤ length body) × (length body ≢ 40 + number 8 body) × (error_kind e ≡ InvalidData))

-- A complete auxtrace record, with its record header and aux data, and a size of 48 bytes in the record header. The aux data
-- after these 48 bytes has the size in the body.
pub record IsAuxtraceRecord (endian : Endianness) (raw_record : List ℕ) : Type 0 where
  pub record_type : number_in endian 4 raw_record ≡ auxtrace
  pub size : number_in endian 2 (drop 6 raw_record) ≡ 48
  pub exact_len : length raw_record ≡ 48 + number_in endian 8 (drop 8 raw_record)

-- The bytes after the record header are a valid body with its aux data.
abbrev pub AuxtraceBodiesParse : Type 0
AuxtraceBodiesParse = (endian : Endianness) (raw_record : List ℕ) → IsAuxtraceRecord endian raw_record → HoldsAuxtrace (number_in endian) (drop 8 raw_record)
