use Rattle.std.proofs.Common.{rules, inr, length}
use Rattle.std.proofs.lemmas.Result.{err_from_is_err_and}
use Rattle.perfdata_sources.specs.Endian.{number_in}
use Rattle.perfdata_sources.proofs.Numbers.{number_prefix}
use Rattle.perfdata_sections.proofs.PartLemmas.{clock_rest_truncated, clock_read}
use Rattle.perfdata_sections.proofs.feature_sections.number_sections.ClockData.parse_with_endian.Goals as goal

pub returns-in_err-read_exact-2-clause-parses : goal.returns-in_err-read_exact-2-clause-parses
returns-in_err-read_exact-2-clause-parses g c =
    let p = err_from_is_err_and c.from_residual-in_err-read_exact-2.result c.from_residual-in_err-read_exact-2.ensures.1 in
    rw (p.1, p.2) (inr (clock_rest_truncated (number_in c.args.endian) (number_prefix c.args.endian) _ _ _ c.read_exact.new.buf (length c.read_exact-2.new.buf) _ (search rules) (search rules) (search rules) c.in_ok-read_exact.ensures.reads c.in_err-read_exact-2.ensures.reads))

pub returns-clause-parses : goal.returns-clause-parses
returns-clause-parses g c =
    clock_read (number_in c.args.endian) (number_prefix c.args.endian) _ _ _ c.read_exact.new.buf c.read_exact-2.new.buf _ (search rules) (search rules) (search rules) c.in_ok-read_exact.ensures.reads c.in_ok-read_exact-2.ensures.reads (search rules)
