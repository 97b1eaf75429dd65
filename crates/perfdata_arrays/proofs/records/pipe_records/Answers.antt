use Rattle.std.proofs.Common.{refl}
use Rattle.perfdata_arrays.proofs.PipeRecordsLemmas.{reads_pipe_records, no_records_written}
use Rattle.perfdata_arrays.proofs.records.pipe_records.Goals as goal

pub returns-in-Err : goal.returns-in-Err
returns-in-Err c = no_records_written c.args.bytes.now c.args.start c.args.entries.now _ refl c.in-Err.ensures

pub returns : goal.returns
returns c =
    reads_pipe_records c.args.bytes.now c.in-Ok.reader c.in-Ok.ensures c.args.start c.args.entries.now c.walk-walked.new.entries c.walk-walked.result c.walk-walked.new.input c.walk-walked.new.perf_file c.walk-walked.ensures _ refl c.status_of_end.ensures
