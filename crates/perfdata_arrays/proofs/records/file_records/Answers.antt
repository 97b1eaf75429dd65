use Rattle.std.proofs.Common.{refl}
use Rattle.perfdata_arrays.proofs.PageLemmas.{no_page, reads_file_page}
use Rattle.perfdata_arrays.proofs.records.file_records.Goals as goal

pub returns-in-Err : goal.returns-in-Err
returns-in-Err c = no_page c.args.bytes.now c.args.position.now c.args.entries.now _ refl c.in-Err.ensures

pub returns : goal.returns
returns c =
    reads_file_page c.args.bytes.now c.args.position.now c.in-Ok.reader c.in-Ok.ensures c.args.entries.now c.walk_page-walked.new.entries c.walk_page-walked.result c.walk_page-walked.new.input c.walk_page-walked.new.perf_file c.walk_page-walked.ensures _ refl c.status_of_end.ensures
