use Rattle.perfdata_arrays.proofs.PipeRecordsLemmas.{is_pipe_with_records}
use Rattle.perfdata_arrays.proofs.metadata.pipe_metadata.Goals as goal

pub returns : goal.returns
returns c =
    (c.walk-walked.ensures.records, is_pipe_with_records c.args.bytes.now c.in_ok-reader.reader c.in_ok-reader.ensures 0 _ c.walk-walked.new.entries c.walk-walked.result c.walk-walked.new.input c.walk-walked.new.perf_file c.walk-walked.ensures c.status_of_end-status.result c.status_of_end-status.ensures)
