use Rattle.std.proofs.lemmas.Result.{err_from_is_err_and}
use Rattle.linux_perf_data.proofs.PipeErrors.{end_overflows, truncated, invalid_metadata}
use Rattle.linux_perf_data.proofs.PipeRecords.{size_small, record_error, record_read}
use Rattle.linux_perf_data.proofs.pipe.opening.read_next.Goals as goal

pub returns-in_err-body_size-clause-reads : goal.returns-in_err-body_size-clause-reads
returns-in_err-body_size-clause-reads g c =
    let p = err_from_is_err_and c.from_residual-in_err-body_size.result c.from_residual-in_err-body_size.ensures.1 in
    let bytes = c.in-Some.bytes in
    let header = c.from_bytes-header.result in
    let is = c.from_bytes-header.ensures in
    let a = g.R.Source.state c.args.source.now in
    let b = g.R.Source.state c.read_header_bytes.new.source in
    let read = rw c.in-Some.is at c.in_ok-bytes.ensures.reads in
    rw (p.1, p.2) (size_small c.args.endian bytes header is read.exact_len a b c.args.offset _ read.consumes c.in_err-body_size.ensures)

pub returns-in_err-end-clause-reads : goal.returns-in_err-end-clause-reads
returns-in_err-end-clause-reads g c =
    let p = err_from_is_err_and c.from_residual-in_err-end.result c.from_residual-in_err-end.ensures.1 in
    let bytes = c.in-Some.bytes in
    let header = c.from_bytes-header.result in
    let is = c.from_bytes-header.ensures in
    let a = g.R.Source.state c.args.source.now in
    let b = g.R.Source.state c.read_header_bytes.new.source in
    let read = rw c.in-Some.is at c.in_ok-bytes.ensures.reads in
    rw (p.1, p.2) (record_error c.args.endian bytes header is read.exact_len c.in_ok-body_size.ensures.0 c.if-not-is_metadata.ensures a b b c.args.offset _ read.consumes
    (end_overflows c.args.endian c.args.offset header b _ c.in_err-end.ensures))

pub returns-in_err-read_metadata_body-clause-reads : goal.returns-in_err-read_metadata_body-clause-reads
returns-in_err-read_metadata_body-clause-reads g c =
    let p = err_from_is_err_and c.from_residual-in_err-read_metadata_body.result c.from_residual-in_err-read_metadata_body.ensures.1 in
    let bytes = c.in-Some.bytes in
    let header = c.from_bytes-header.result in
    let is = c.from_bytes-header.ensures in
    let a = g.R.Source.state c.args.source.now in
    let b = g.R.Source.state c.read_header_bytes.new.source in
    let read = rw c.in-Some.is at c.in_ok-bytes.ensures.reads in
    let d = g.R.Source.state c.read_metadata_body.new.source in
    rw (p.1, p.2) (record_error c.args.endian bytes header is read.exact_len c.in_ok-body_size.ensures.0 c.if-not-is_metadata.ensures a b d c.args.offset _ read.consumes
    (truncated c.args.endian c.args.offset header b d _ _ _ c.in_ok-end.ensures c.in_ok-body_size.ensures.1 c.in_err-read_metadata_body.ensures.reads))

pub returns-in_err-add_record-clause-reads : goal.returns-in_err-add_record-clause-reads
returns-in_err-add_record-clause-reads g c =
    let p = err_from_is_err_and c.from_residual-in_err-add_record.result c.from_residual-in_err-add_record.ensures.1 in
    let bytes = c.in-Some.bytes in
    let header = c.from_bytes-header.result in
    let is = c.from_bytes-header.ensures in
    let a = g.R.Source.state c.args.source.now in
    let b = g.R.Source.state c.read_header_bytes.new.source in
    let read = rw c.in-Some.is at c.in_ok-bytes.ensures.reads in
    let d = g.R.Source.state c.read_metadata_body.new.source in
    rw (p.1, p.2) (record_error c.args.endian bytes header is read.exact_len c.in_ok-body_size.ensures.0 c.if-not-is_metadata.ensures a b d c.args.offset _ read.consumes
    (invalid_metadata c.args.endian c.args.offset header b d _ _ _ c.read_metadata_body.new.body.items c.in_ok-end.ensures c.in_ok-body_size.ensures.1 c.in_ok-read_metadata_body.ensures.reads (rw c.as_slice.ensures.value at c.in_err-add_record.ensures)))

pub returns-clause-reads : goal.returns-clause-reads
returns-clause-reads g c =
    let bytes = c.in-Some.bytes in
    let header = c.from_bytes-header.result in
    let is = c.from_bytes-header.ensures in
    let a = g.R.Source.state c.args.source.now in
    let b = g.R.Source.state c.read_header_bytes.new.source in
    let read = rw c.in-Some.is at c.in_ok-bytes.ensures.reads in
    let d = g.R.Source.state c.read_metadata_body.new.source in
    record_read c.args.endian bytes header is read.exact_len c.in_ok-body_size.ensures.0 c.if-not-is_metadata.ensures a b d c.args.offset _ c.read_metadata_body.new.body.items
    c.args.metadata.now c.add_record.new.self read.consumes c.in_ok-end.ensures (rw c.in_ok-body_size.ensures.1 at c.in_ok-read_metadata_body.ensures.reads) (rw c.as_slice.ensures.value at c.in_ok-add_record.ensures)
