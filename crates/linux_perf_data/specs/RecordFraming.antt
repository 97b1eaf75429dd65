-- Reading the parts of a record from a source, and the causes of its errors.
use Rattle.std.specs.Prelude.{◌≡◌, ◌≢◌, ℕ, ◌+◌, ◌-◌, ◌<◌, ◌≤◌, ◌⊎◌, List, [], ◌++◌, length, None, Some}
use Rattle.perfdata_sources.specs.Source.{State, SourceFailed, SourcePaused}
use Rattle.perfdata_sources.specs.Endian.{number_in}
use Rattle.perfdata_sources.specs.declared.endian.Endianness.{Endianness}
use Rattle.perfdata_sections.specs.declared.error.Error.{Error}
use Rattle.perfdata_sections.specs.declared.error.Error.TheVariants.{Read, InvalidPerfEventSize}
use Rattle.perfdata_sections.specs.declared.error.ReadError.TheVariants.{PerfEventData}
use Rattle.perfdata_sections.specs.Error.{IsUnexpectedEof, IsUnsupported, IsInvalidData, IsIoError}
use Rattle.perfdata_sections.specs.EventDesc.{IsEventDescError}
use Rattle.perfdata_sections.specs.RecordTypes.{finished_round, auxtrace}
use Rattle.linux_perf_data.specs.Consistency.{error_of_inconsistency}
use Rattle.linux_perf_data.specs.Layout.{SectionSize, LayoutError, truncated_header, size_below_header, end_overflows, truncated_body, compressed_record, aux_body_too_short, aux_end_overflows, truncated_aux_data, invalid_metadata, truncated_metadata, attr_size_too_small, invalid_event_desc, inconsistent_attributes, record_type_of, record_size_of, total_size_of}

-- The error that reports a layout error.
abbrev pub IsErrorFor : LayoutError → Error → Type 0
IsErrorFor truncated_header e = IsUnexpectedEof e
IsErrorFor size_below_header e = e ≡ InvalidPerfEventSize
IsErrorFor end_overflows e = e ≡ Read PerfEventData
IsErrorFor truncated_body e = e ≡ Read PerfEventData
IsErrorFor compressed_record e = IsUnsupported e
IsErrorFor aux_body_too_short e = IsUnexpectedEof e
IsErrorFor aux_end_overflows e = e ≡ Read PerfEventData
IsErrorFor truncated_aux_data e = e ≡ Read PerfEventData
IsErrorFor (invalid_metadata truncated_metadata) e = IsUnexpectedEof e
IsErrorFor (invalid_metadata attr_size_too_small) e = IsInvalidData e
IsErrorFor (invalid_event_desc order bytes) e = IsEventDescError (number_in order) e bytes
IsErrorFor (inconsistent_attributes b) e = e ≡ error_of_inconsistency b

-- The record is truncated after its header: in what the size in the header counts, or after it in the aux data.
abbrev pub IsTruncatedAfterHeader : Endianness → List ℕ → Type 0
IsTruncatedAfterHeader order consumed =
    (8 ≤ length consumed)
    × ((length consumed < record_size_of order consumed)
    ⊎ ((record_type_of order consumed ≡ auxtrace) × (48 ≤ record_size_of order consumed) × (record_size_of order consumed ≤ length consumed)
    × (length consumed < total_size_of order consumed)))

-- The bytes are no more than one record: its header, and the body and aux data of that header.
abbrev pub StaysWithinRecord : Endianness → List ℕ → Type 0
StaysWithinRecord order consumed =
    (length consumed ≤ 8)
    ⊎ ((length consumed ≤ record_size_of order consumed)
    ⊎ ((record_type_of order consumed ≡ auxtrace) × (48 ≤ record_size_of order consumed) × (length consumed ≤ total_size_of order consumed)))

-- The source error inside a record with the bytes `consumed`. In the header it is the source's I/O error, or, in a file, an
-- unexpected end of file if the source paused. After the header it is `Read(PerfEventData)`. In a pipe, a pause is the end of the
-- records, except in aux data, where it is an error.
abbrev pub SourceErrorInRecord : Endianness → SectionSize → State → List ℕ → Error → State → Type 0
SourceErrorInRecord order bound old consumed e new =
    ((length consumed < 8) × ((IsIoError e × SourceFailed old new) ⊎ (IsUnexpectedEof e × (bound ≢ None) × SourcePaused old new)))
    ⊎ (IsTruncatedAfterHeader order consumed × (e ≡ Read PerfEventData)
    × (SourceFailed old new ⊎ ((bound ≡ None → record_size_of order consumed ≤ length consumed) × SourcePaused old new)))

-- Reading the body may need memory: the record has a body and isn't a marker.
pub record MayNeedMemory (order : Endianness) (consumed : List ℕ) : Type 0 where
  pub complete_header : 8 ≤ length consumed
  pub record_type : record_type_of order consumed ≢ finished_round
  pub has_body : 8 < record_size_of order consumed

-- A buffer of this capacity is too small for the body of a record that starts with the bytes `consumed`: for what its header counts or,
-- once that was read, for it and the aux data.
abbrev pub ExceedsCapacity : Endianness → ℕ → List ℕ → Type 0
ExceedsCapacity order capacity consumed =
    (capacity + 8 < record_size_of order consumed)
    ⊎ ((record_type_of order consumed ≡ auxtrace) × (record_size_of order consumed ≤ length consumed) × (capacity + 8 < total_size_of order consumed))

-- The bytes `consumed` show that `Holds`, whatever follows them or because nothing does.
abbrev pub ShownBy : (List ℕ → Type 0) → List ℕ → State → Type 0
ShownBy Holds consumed new = ((rest : List ℕ) → Holds (consumed ++ rest)) ⊎ ((new.bytes ≡ Some []) × Holds consumed)
