use Rattle.perfdata_arrays.proofs.EndLemmas.{ends_with}
use Rattle.perfdata_arrays.proofs.decompressing.end_status.Goals as goal

pub returns : goal.returns
returns c =
    ends_with c.args.bytes.now c.in_ok-reader.reader 0 _ c.walk-walked.new.entries c.walk-walked.result c.walk-walked.new.input c.walk-walked.new.perf_file c.walk-walked.ensures c.status_of_end.result c.status_of_end.ensures
    c.args.recording c.in_ok-reader.ensures
