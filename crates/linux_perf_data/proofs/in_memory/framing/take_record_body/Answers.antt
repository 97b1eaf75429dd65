use Rattle.std.proofs.Common.{refl, sym, ap, ◌≡◌, ◌-◌, Some}
use Rattle.std.proofs.lemmas.Result.{err_from_is_err_and}
use Rattle.linux_perf_data.specs.InMemory.{memory_state}
use Rattle.linux_perf_data.proofs.SourceViews.{pass_true, pass_false}
use Rattle.linux_perf_data.proofs.InMemoryFraming.{body_ended, body_compressed, body_consumed, body_with_aux_consumed, aux_data_error}
use Rattle.linux_perf_data.proofs.in_memory.framing.take_record_body.Goals as goal

pub returns : goal.returns
returns c =
    let a = memory_state c.args.source.now in
    let b = memory_state c.skip_bytes.new.source in
    let skipped = pass_true a b _ _ c.if-not-skip_bytes.false c.skip_bytes.ensures in
    let known : a.bytes ≡ Some c.remaining-bytes.result.now = ap (λ l. Some l) (sym c.remaining-bytes.ensures.value) in
    let aux = c.in_ok-size_with_aux.ensures in
    body_with_aux_consumed c.args.endian c.remaining-bytes.result.now aux.0 a b (memory_state c.skip_aux_data.new.source) c.args.header c.args.end _ (c.args.header.size - 8) _ c.remaining-bytes.ensures.fits known c.requires refl
    c.if-is_compressed.ensures c.if-header-ne-PERF_RECORD_AUXTRACE.false skipped aux.1 aux.2

pub returns-then-not-skip_bytes : goal.returns-then-not-skip_bytes
returns-then-not-skip_bytes c =
    let a = memory_state c.args.source.now in
    let b = memory_state c.skip_bytes.new.source in
    body_ended a b c.args.header (c.args.header.size - 8) refl (pass_false a b _ _ c.if-not-skip_bytes.true c.skip_bytes.ensures)

pub returns-then-is_compressed : goal.returns-then-is_compressed
returns-then-is_compressed c =
    let a = memory_state c.args.source.now in
    let b = memory_state c.skip_bytes.new.source in
    let skipped = pass_true a b _ _ c.if-not-skip_bytes.false c.skip_bytes.ensures in
    body_compressed c.args.endian a b c.args.header c.args.end (c.args.header.size - 8) c.unsupported.result refl c.unsupported.ensures c.if-is_compressed.ensures skipped

pub returns-then-header-ne-PERF_RECORD_AUXTRACE : goal.returns-then-header-ne-PERF_RECORD_AUXTRACE
returns-then-header-ne-PERF_RECORD_AUXTRACE c =
    let a = memory_state c.args.source.now in
    let b = memory_state c.skip_bytes.new.source in
    let skipped = pass_true a b _ _ c.if-not-skip_bytes.false c.skip_bytes.ensures in
    let known : a.bytes ≡ Some c.remaining-bytes.result.now = ap (λ l. Some l) (sym c.remaining-bytes.ensures.value) in
    body_consumed c.args.endian c.remaining-bytes.result.now a b c.args.header c.args.end (c.args.header.size - 8) c.remaining-bytes.ensures.fits known refl c.if-is_compressed.ensures c.if-header-ne-PERF_RECORD_AUXTRACE.true skipped

pub returns-in_err-size_with_aux : goal.returns-in_err-size_with_aux
returns-in_err-size_with_aux c =
    let p = err_from_is_err_and c.from_residual.result c.from_residual.ensures.1 in
    let a = memory_state c.args.source.now in
    let b = memory_state c.skip_bytes.new.source in
    let skipped = pass_true a b _ _ c.if-not-skip_bytes.false c.skip_bytes.ensures in
    let known : a.bytes ≡ Some c.remaining-bytes.result.now = ap (λ l. Some l) (sym c.remaining-bytes.ensures.value) in
    let aux = c.in_err-size_with_aux.ensures in
    rw (p.1, p.2) (
      aux.0,
      aux_data_error c.args.endian c.remaining-bytes.result.now a b (memory_state c.skip_aux_data.new.source) c.args.header c.args.end (c.args.header.size - 8) c.in_err-size_with_aux.field-0.0 known c.requires refl c.if-header-ne-PERF_RECORD_AUXTRACE.false skipped aux.1,
    )
