use Rattle.std.proofs.Common.{◌∙◌, take, drop, sym, ap, arith, length-take-le}
use Rattle.std.proofs.lemmas.List.{take-append-drop}
use Rattle.perfdata_sources.specs.Raw.{bytes_of}
use Rattle.perfdata_jit.specs.RecordBytes.{record_header_at}
use Rattle.perfdata_jit.proofs.RecordHeaders.{header_front}
use Rattle.perfdata_jit.proofs.record.JitDumpRecordHeader.parse.Goals as goal

pub returns-clause-value : goal.returns-clause-value
returns-clause-value c =
    let xs = bytes_of c.args.bytes in
    let len = length-take-le 16 xs c.in_ok-read_exact.ensures.rest.enough in
    c.from_bytes.ensures ∙ ap (record_header_at c.args.endian) c.in_ok-read_exact.ensures.read ∙ sym (header_front c.args.endian (take 16 xs) (drop 16 xs) (omega (arith, len))) ∙ ap (record_header_at c.args.endian) (take-append-drop 16 xs)
