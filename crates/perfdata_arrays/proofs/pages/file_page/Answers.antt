use Rattle.perfdata_arrays.proofs.DecodedPageLemmas.{nothing_read, page_read}
use Rattle.perfdata_arrays.proofs.pages.file_page.Goals as goal

pub returns-in-Err : goal.returns-in-Err
returns-in-Err g c = nothing_read g.D.RecordDecoder.kind c.args.bytes.now c.args.position.now c.args.entries.now c.args.frames.now c.in-Err.status c.page_result.result c.page_result.ensures c.in-Err.ensures

pub returns : goal.returns
returns g c =
    page_read g.D.RecordDecoder.kind c.args.bytes.now c.args.position.now c.in-Ok.reader c.in-Ok.ensures c.args.entries.now c.args.frames.now c.decode_records-walk.result c.decode_records-walk.new.input c.decode_records-walk.new.perf_file c.decode_records-walk.new.entries c.decode_records-walk.new.frames c.walk_result.result c.decode_records-walk.ensures c.walk_result.ensures
