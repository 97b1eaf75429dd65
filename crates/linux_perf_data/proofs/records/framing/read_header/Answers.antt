use Rattle.std.proofs.Common.{inl, inr}
use Rattle.std.proofs.lemmas.Result.{err_from_is_err_and}
use Rattle.linux_perf_data.specs.RecordInput.{input_source_state}
use Rattle.linux_perf_data.proofs.RecordReads.{header_parsed}
use Rattle.linux_perf_data.proofs.records.framing.read_header.Goals as goal

pub returns-in_err-body_size-clause-header : goal.returns-in_err-body_size-clause-header
returns-in_err-body_size-clause-header g c =
    let p = err_from_is_err_and c.from_residual-in_err-body_size.result c.from_residual-in_err-body_size.ensures.1 in
    let a = input_source_state c.args.input.now (g.R.Source.state c.args.source.now) in
    let b = input_source_state c.next_header_bytes.new.input (g.R.Source.state c.next_header_bytes.new.source) in
    let t = header_parsed c.args.endian a b _ _ c.from_bytes-header.ensures (rw c.in-Some.is at c.in_ok-bytes.ensures.reads) in
    rw (p.1, p.2) (inr (c.from_bytes-header.result, t, inl c.in_err-body_size.ensures))

pub returns-in_err-end-clause-header : goal.returns-in_err-end-clause-header
returns-in_err-end-clause-header g c =
    let p = err_from_is_err_and c.from_residual-in_err-end.result c.from_residual-in_err-end.ensures.1 in
    let a = input_source_state c.args.input.now (g.R.Source.state c.args.source.now) in
    let b = input_source_state c.next_header_bytes.new.input (g.R.Source.state c.next_header_bytes.new.source) in
    let t = header_parsed c.args.endian a b _ _ c.from_bytes-header.ensures (rw c.in-Some.is at c.in_ok-bytes.ensures.reads) in
    rw (p.1, p.2) (inr (c.from_bytes-header.result, t, inr (c.in_ok-body_size.ensures.0, c.in_err-end.ensures)))

pub returns-clause-header : goal.returns-clause-header
returns-clause-header g c =
    let a = input_source_state c.args.input.now (g.R.Source.state c.args.source.now) in
    let b = input_source_state c.next_header_bytes.new.input (g.R.Source.state c.next_header_bytes.new.source) in
    let t = header_parsed c.args.endian a b _ _ c.from_bytes-header.ensures (rw c.in-Some.is at c.in_ok-bytes.ensures.reads) in
    (t, c.in_ok-body_size.ensures.0, c.in_ok-end.ensures)
