-- Steps of private functions: the body and the attribute of a record, by its entry.
use Rattle.std.specs.Prelude.{ℕ, List, Result, Ok, Err}
use Rattle.perfdata_sources.specs.declared.endian.Endianness.{Endianness}
use Rattle.linux_perf_data.specs.declared.in_memory.entries.RecordEntry.{RecordEntry}
use Rattle.perfdata_arrays.specs.declared.attrs.Attr.{Attr}
use Rattle.perfdata_arrays.specs.declared.status.Status.{Status}
use Rattle.perfdata_chunks.specs.SingleRecords.{HasRecord, IsMissing}
use Rattle.perfdata_chunks.specs.declared.single_records.SingleRecord.{SingleRecord}

abbrev pub FindsRecord : Endianness → List ℕ → List Attr → RecordEntry → Result SingleRecord Status → Type 0
FindsRecord order chunk attrs entry (Ok found) = HasRecord order chunk attrs entry found.format found.raw
FindsRecord order chunk attrs entry (Err status) = IsMissing chunk attrs entry status
