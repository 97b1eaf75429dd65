use Rattle.std.proofs.Common.{◌≡◌, refl, ap, subst, take, length, rules, None, vec_len, ◌∙◌}
use Rattle.std.proofs.lemmas.Result.{err_from_is_err_and}
use Rattle.perfdata_jit.proofs.Steps.{opened, not_opened_in, reads_prefix, header_in}
use Rattle.perfdata_jit.specs.JitDumpReader.{ReaderOpened}
use Rattle.perfdata_jit.specs.declared.jitdump_reader.JitDumpReader.{JitDumpReader}
use Rattle.perfdata_jit.proofs.jitdump_reader.JitDumpReader.new_with_buffer_size.Goals as goal

pub returns-in_err-header-clause-opens : goal.returns-in_err-header-clause-opens
returns-in_err-header-clause-opens g c =
    let p = err_from_is_err_and c.from_residual-in_err-header.result c.from_residual-in_err-header.ensures.1 in
    let state = g.R.Source.state in
    let buf = c.fill_buffer.new.buffer.items in
    let count = c.in_ok-read_count.read_count in
    let new = state c.fill_buffer.new.source in
    let size : length buf ≡ c.args.buffer_size = search rules in
    let error = rw c.deref.ensures.value at c.in_err-header.ensures.error in
    rw (p.1, p.2) (not_opened_in state c.args.source c.args.buffer_size (length buf) (take count buf) new _ size (reads_prefix state c.args.source buf count new c.in_ok-read_count.ensures.fills c.in_ok-read_count.ensures.counts) error)

pub returns-clause-opens : goal.returns-clause-opens
returns-clause-opens g c =
    let state = g.R.Source.state in
    let buf = c.fill_buffer.new.buffer.items in
    let count = c.in_ok-read_count.read_count in
    let new = state c.fill_buffer.new.source in
    let header = c.in_ok-header.header in
    let size : length buf ≡ c.args.buffer_size = search rules in
    let begins = rw c.deref.ensures.value at c.in_ok-header.ensures.value in
    let made = c.new_with_partially_read_buffer.ensures in
    let len : vec_len c.fill_buffer.new.buffer ≡ length buf = search rules in
    let endian = c.endian-endian.result in
    let j : JitDumpReader g.row.R.Denot = record { reader = c.new_with_partially_read_buffer.result; header = header; endian = endian; pending_header = None; offset = header.total_size } in
    subst (λ k. ReaderOpened state c.args.source k j) size
    (opened state c.args.source buf count j new c.in_ok-read_count.ensures.fills c.in_ok-read_count.ensures.counts (header_in state endian begins.endian (take count buf) header begins.matches c.endian-endian.ensures) refl made.buffered (ap state made.source) refl (made.size ∙ len) made.overflow made.no_seek_failed)
