use Rattle.std.proofs.Common.{◌-◌, ◌^◌, List}
use Rattle.linux_perf_data.specs.InMemoryReading.{ReturnsRecordsInMemory}
use Rattle.linux_perf_data.specs.Layout.{RecordView}
use Rattle.perfdata_chunks.proofs.input_errors.read_to_end.Given as goal

abbrev pub invariant-records : goal.invariant-records
invariant-records l = record {
  so_far : (records : List RecordView) × ReturnsRecordsInMemory l.initial.input l.initial.perf_file records l.input l.perf_file;
}

abbrev pub decreases-records : goal.decreases-records
decreases-records l = 2 ^ 64 - l.input.records.offset
