use Rattle.std.proofs.Common.{arith}
use Rattle.std.proofs.lemmas.Result.{err_from_is_err_and}
use Rattle.perfdata_sources.specs.Endian.{number_in}
use Rattle.perfdata_sources.specs.Raw.{bytes_of}
use Rattle.perfdata_sources.proofs.Numbers.{in_reads_first}
use Rattle.perfdata_jit.proofs.JitHeaders.{header_whole, header_truncated}
use Rattle.perfdata_jit.proofs.header.parse_after_magic.Goals as goal

pub returns-clause-value : goal.returns-clause-value
returns-clause-value c =
    header_whole (number_in c.args.endian) (in_reads_first c.args.endian) c.args.magic (bytes_of c.args.rest) c.read_exact.new.buf c.parse_fields-header.result
    c.in_ok-read_exact.ensures.rest.enough c.in_ok-read_exact.ensures.read c.parse_fields-header.ensures (omega (arith, c.saturating_sub.ensures, c.in_ok-skip.ensures.rest.enough))

pub returns-in_err-skip-clause-error : goal.returns-in_err-skip-clause-error
returns-in_err-skip-clause-error c =
    let p = err_from_is_err_and c.from_residual-in_err-skip.result c.from_residual-in_err-skip.ensures.1 in
    rw (p.1, p.2) (header_truncated (number_in c.args.endian) (in_reads_first c.args.endian) c.args.magic (bytes_of c.args.rest) c.read_exact.new.buf c.parse_fields-header.result
    c.in_ok-read_exact.ensures.rest.enough c.in_ok-read_exact.ensures.read c.parse_fields-header.ensures _ (omega (arith, c.saturating_sub.ensures, c.in_err-skip.ensures.too_short.too_few)) c.in_err-skip.ensures.too_short.kind)
