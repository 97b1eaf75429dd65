use Rattle.std.proofs.Common.{rules, ◌≡◌, length}
use Rattle.std.proofs.lemmas.Result.{err_from_is_err_and}
use Rattle.perfdata_base.proofs.Headers.{whole_header, header_not_skipped}
use Rattle.perfdata_base.proofs.header.PerfHeader.parse_from.Goals as goal

pub returns-in_err-skip_extra-clause-parses : goal.returns-in_err-skip_extra-clause-parses
returns-in_err-skip_extra-clause-parses g c =
    let p = err_from_is_err_and c.from_residual-in_err-skip_extra.result c.from_residual-in_err-skip_extra.ensures.1 in
    let long : length c.read_exact.new.buf ≡ 104 = search rules in
    rw (p.1, p.2) (header_not_skipped _ (g.C.Source.state c.read_exact.new.source) _ c.read_exact.new.buf c.parse_header-header.result _ (g.met.C.PlacedSource.remaining_from_position c.args.source.now) long c.in_ok-read_exact.ensures.reads c.parse_header-header.ensures c.in_err-skip_extra.ensures.skips)

pub returns-clause-parses : goal.returns-clause-parses
returns-clause-parses g c =
    let long : length c.read_exact.new.buf ≡ 104 = search rules in
    whole_header _ (g.C.Source.state c.read_exact.new.source) _ c.read_exact.new.buf c.parse_header-header.result (g.met.C.PlacedSource.remaining_from_position c.args.source.now) long c.in_ok-read_exact.ensures.reads c.parse_header-header.ensures c.in_ok-skip_extra.ensures.skips
