-- Who wrote a kernel record, when and where, as plain numbers.
use Rattle.std.specs.Prelude.{◌≡◌, ◌⊎◌, ℕ, ◌+◌, ◌≤◌, ◌<◌, Bool, List, is_some, if◌then◌else◌}
use Rattle.std.specs.Option.{option_or, unwrap_or}
use Rattle.std.specs.declared.io.ErrorKind.{ErrorKind}
use Rattle.perfdata_sources.specs.declared.endian.Endianness.{Endianness}
use Rattle.perfdata_base.specs.declared.event.raw_event_record.RawEventRecord.{RawEventRecord}
use Rattle.perfdata_events.specs.RecordId.{IsSampleIdOf, SampleIdFails, no_sample_id}
use Rattle.perfdata_events.specs.declared.format.EventFormat.{EventFormat}
use Rattle.perfdata_events.specs.declared.sample_id.SampleId.{SampleId}
use Rattle.linux_perf_data.specs.declared.in_memory.entries.RecordEntry.{RecordEntry}
use Rattle.perfdata_arrays.specs.Samples.{task_or_none}
use Rattle.perfdata_arrays.specs.Status.{io_kind_status}
use Rattle.perfdata_arrays.specs.declared.attrs.Attr.{Attr}
use Rattle.perfdata_arrays.specs.declared.status.Status.{Status}
use Rattle.perfdata_arrays.specs.declared.status.Status.TheVariants.{Success}
use Rattle.perfdata_chunks.specs.SingleRecords.{HasRecord, IsMissing}
use Rattle.perfdata_chunks.specs.declared.common.Common.{Common}

-- The bits of the fields that are there: TID 1, TIME 2, ID 6, CPU 7, STREAM_ID 9, IDENTIFIER 16.
abbrev pub fields_of : SampleId → ℕ
fields_of id = (if is_some id.task then 2 else 0) + (if is_some id.timestamp then 4 else 0) + (if is_some id.id then 64 else 0)
    + (if is_some id.cpu then 128 else 0) + (if is_some id.stream_id then 512 else 0) + (if is_some id.identifier then 65536 else 0)

-- The fields as numbers. What isn't there is 0, and the identifier is IDENTIFIER or else ID.
abbrev pub common_of : SampleId → Common
common_of id = record {
  timestamp = unwrap_or id.timestamp 0;
  id = unwrap_or (option_or id.identifier id.id) 0;
  stream_id = unwrap_or id.stream_id 0;
  fields = fields_of id;
  cpu = unwrap_or id.cpu 0;
  pid = (task_or_none id.task).pid;
  tid = (task_or_none id.task).tid;
}

-- The fields of a kernel record, of which a tool's record has none; or they are truncated, and nothing is written.
abbrev pub ReadsFields : EventFormat → RawEventRecord → Common → Status → Common → Type 0
ReadsFields format raw old status new =
    ((status ≡ Success) × (64 ≤ raw.record_type.0) × (new ≡ common_of no_sample_id))
    ⊎ (((status ≡ Success) × (raw.record_type.0 < 64) × ((id : SampleId) × IsSampleIdOf format raw id × (new ≡ common_of id)))
    ⊎ ((raw.record_type.0 < 64) × (new ≡ old) × ((kind : ErrorKind) × SampleIdFails format raw kind × (status ≡ io_kind_status kind))))

-- The result for the record with an entry.
abbrev pub ReadsCommon : Endianness → List ℕ → List Attr → RecordEntry → Common → Status → Common → Type 0
ReadsCommon order chunk attrs entry old status new =
    (IsMissing chunk attrs entry status × (new ≡ old))
    ⊎ ((format : EventFormat) × ((raw : RawEventRecord) × HasRecord order chunk attrs entry format raw × ReadsFields format raw old status new))
