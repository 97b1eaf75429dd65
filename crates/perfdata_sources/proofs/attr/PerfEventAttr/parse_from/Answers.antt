use Rattle.std.proofs.Common.{rules, ◌≡◌, length}
use Rattle.std.proofs.lemmas.Result.{err_from_is_err_and}
use Rattle.perfdata_sources.proofs.Attrs.{whole_attr, rest_truncated, first_eight_front}
use Rattle.perfdata_sources.proofs.attr.PerfEventAttr.parse_from.Goals as goal

pub returns-in_err-attr-clause-parses : goal.returns-in_err-attr-clause-parses
returns-in_err-attr-clause-parses g c =
    let p = err_from_is_err_and c.from_residual-in_err-attr.result c.from_residual-in_err-attr.ensures.1 in
    let long : length c.read_own_size.new.bytes ≡ 8 = search rules in
    rw (p.1, p.2) (rest_truncated g.T.ByteOrder.number_of g.met.T.ByteOrder.reads_first _ (g.R.Source.state c.read_own_size.new.source) _ c.read_own_size.new.bytes c.in_ok-own_size.own_size _ long c.in_ok-own_size.ensures.reads c.in_err-attr.ensures.reads)

pub returns-clause-parses : goal.returns-clause-parses
returns-clause-parses g c =
    let long : length c.read_own_size.new.bytes ≡ 8 = search rules in
    let more = c.in_ok-attr.ensures.reads in
    whole_attr g.T.ByteOrder.number_of g.met.T.ByteOrder.reads_first _ (g.R.Source.state c.read_own_size.new.source) _ c.read_own_size.new.bytes c.in_ok-own_size.own_size _ long c.in_ok-own_size.ensures.reads (rw first_eight_front at more)
