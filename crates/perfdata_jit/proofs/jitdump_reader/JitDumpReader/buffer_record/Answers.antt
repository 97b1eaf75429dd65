use Rattle.std.proofs.Common.{◌-◌, refl, subst, Ok}
use Rattle.perfdata_jit.proofs.RecordHeaders.{holds_next, not_ready_for_body, body_error}
use Rattle.perfdata_jit.proofs.KeptBytes.{buffered_if, not_buffered_if}
use Rattle.perfdata_jit.specs.steps.HeaderSteps.{PeeksValidHeader}
use Rattle.std.proofs.lemmas.Result.{err_from_is_err_and}
use Rattle.perfdata_jit.proofs.jitdump_reader.JitDumpReader.buffer_record.Goals as goal

pub returns-then-is_buffered-clause-buffers_record : goal.returns-then-is_buffered-clause-buffers_record
returns-then-is_buffered-clause-buffers_record g c =
    let state = g.R.Source.state in
    let mid = c.peek_valid_header.new.self in
    let header = c.in-Some.header in
    let peeked = subst (λ o. PeeksValidHeader state c.args.self.now (Ok o) mid) c.in-Some.is c.in_ok-header.ensures.peeks_header in
    let buffered = buffered_if state (header.total_size - 16) mid.reader c.ensure_buffered.new.self c.in_ok-is_buffered.is_buffered c.if-is_buffered.true c.in_ok-is_buffered.ensures.buffers in
    holds_next state c.args.self.now mid _ header peeked buffered refl refl (record { header = refl; same_endian = refl; ring_capacity = buffered.keeps_bytes.ring_capacity })

pub returns-else-is_buffered-clause-buffers_record : goal.returns-else-is_buffered-clause-buffers_record
returns-else-is_buffered-clause-buffers_record g c =
    let state = g.R.Source.state in
    let mid = c.peek_valid_header.new.self in
    let header = c.in-Some.header in
    let peeked = subst (λ o. PeeksValidHeader state c.args.self.now (Ok o) mid) c.in-Some.is c.in_ok-header.ensures.peeks_header in
    let buffered = not_buffered_if state (header.total_size - 16) mid.reader c.ensure_buffered.new.self c.in_ok-is_buffered.is_buffered c.if-is_buffered.false c.in_ok-is_buffered.ensures.buffers in
    not_ready_for_body state c.args.self.now mid _ header peeked buffered refl refl (record { header = refl; same_endian = refl; ring_capacity = buffered.keeps_bytes.ring_capacity })

pub returns-in_err-is_buffered-clause-buffers_record : goal.returns-in_err-is_buffered-clause-buffers_record
returns-in_err-is_buffered-clause-buffers_record g c =
    let p = err_from_is_err_and c.from_residual-in_err-is_buffered.result c.from_residual-in_err-is_buffered.ensures.1 in
    let state = g.R.Source.state in
    let mid = c.peek_valid_header.new.self in
    let header = c.in-Some.header in
    let peeked = subst (λ o. PeeksValidHeader state c.args.self.now (Ok o) mid) c.in-Some.is c.in_ok-header.ensures.peeks_header in
    let failed = c.in_err-is_buffered.ensures.buffers in
    rw (p.1, p.2) (body_error state c.args.self.now mid _ header _ peeked failed refl refl (record { header = refl; same_endian = refl; ring_capacity = failed.keeps_bytes.ring_capacity }))
