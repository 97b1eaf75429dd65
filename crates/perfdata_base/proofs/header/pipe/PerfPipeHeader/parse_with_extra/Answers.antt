use Rattle.std.proofs.Common.{rules, ◌≡◌, ◌-◌, length, inr}
use Rattle.std.proofs.lemmas.Result.{err_from_is_err_and}
use Rattle.perfdata_base.proofs.PipeHeaders.{whole_prefix, failed_after}
use Rattle.perfdata_base.proofs.header.pipe.PerfPipeHeader.parse_with_extra.Goals as goal

pub returns-clause-parses : goal.returns-clause-parses
returns-clause-parses g c =
    let long : length c.read_exact.new.buf ≡ 16 = search rules in
    let counts : c.saturating_sub-extra.result ≡ c.parse_header-header.result.size - 16 = search rules in
    whole_prefix _ (g.R.Source.state c.read_exact.new.source) _ c.read_exact.new.buf c.parse_header-header.result c.saturating_sub-extra.result _ _ long c.parse_header-header.ensures c.in_ok-read_exact.ensures.reads counts c.in_ok-skipped.ensures.skips (search rules)

pub returns-in_err-skipped-clause-parses : goal.returns-in_err-skipped-clause-parses
returns-in_err-skipped-clause-parses g c =
    let p = err_from_is_err_and c.from_residual-in_err-skipped.result c.from_residual-in_err-skipped.ensures.1 in
    let long : length c.read_exact.new.buf ≡ 16 = search rules in
    let counts : c.saturating_sub-extra.result ≡ c.parse_header-header.result.size - 16 = search rules in
    let failed = c.in_err-skipped.ensures.skips in
    rw (p.1, p.2) (inr (failed_after _ (g.R.Source.state c.read_exact.new.source) _ c.read_exact.new.buf c.parse_header-header.result c.saturating_sub-extra.result long c.parse_header-header.ensures c.in_ok-read_exact.ensures.reads counts failed.0 failed.1))
