use Rattle.std.proofs.Common.{refl}
use Rattle.std.proofs.lemmas.Result.{err_from_is_err_and}
use Rattle.linux_perf_data.proofs.Slices.{clock_error, clock_value}
use Rattle.linux_perf_data.proofs.perf_file.parse.parse_clock_data.Goals as goal

pub returns-in_err-parse_with_endian : goal.returns-in_err-parse_with_endian
returns-in_err-parse_with_endian c =
    let p = err_from_is_err_and c.from_residual.result c.from_residual.ensures.1 in
    rw (p.1, p.2) (clock_error c.args.endian c.args.endian refl c.args.bytes.now _ c.in_err-parse_with_endian.field-0.0 c.in_err-parse_with_endian.ensures.parses)

pub returns : goal.returns
returns c = clock_value c.args.endian c.args.endian refl c.args.bytes.now _ _ c.in_ok-parse_with_endian.ensures.parses
