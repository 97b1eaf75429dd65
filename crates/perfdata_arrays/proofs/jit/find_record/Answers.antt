use Rattle.std.proofs.Common.{arith, ◌≤◌, ◌∙◌, ap, length, subst, length-drop}
use Rattle.perfdata_jit.specs.RecordBytes.{record_header_at}
use Rattle.perfdata_arrays.proofs.JitLemmas.{finds_whole}
use Rattle.perfdata_arrays.proofs.OverwriteLemmas.{take-drop-length}
use Rattle.perfdata_arrays.proofs.jit.find_record.Goals as goal

pub returns : goal.returns
returns c =
    let bytes = c.args.bytes.now in
    let at = c.args.offset in
    let same = take-drop-length at bytes in
    let there = c.if-size-rest.false in
    finds_whole c.args.endian bytes at c.in-Ok.header
    (c.in-Ok.ensures.value ∙ ap (record_header_at c.args.endian) same)
    c.if-size-lt-SIZE.false
    (omega (arith, there, ap length same, length-drop at bytes))
    (subst (λ n. at ≤ n) c.byte_count.ensures.value c.if-offset-byte_count.false)
    c.byte_count.ensures.fits
