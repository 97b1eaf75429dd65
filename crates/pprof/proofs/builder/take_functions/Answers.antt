use Rattle.std.proofs.Common.{◌≡◌, ◌∙◌, map, length, ap, arith, rules}
use Rattle.std.proofs.lemmas.Map.Iter.{iter_end}
use Rattle.std.specs.Map.Iter.{deref}
use Rattle.pprof.specs.Rows.{numbered}
use Rattle.pprof.specs.Tables.{function_row}
use Rattle.pprof.proofs.Numbering.{rows_more}
use Rattle.pprof.proofs.builder.take_functions.Goals as goal

pub rows-preserved : goal.rows-preserved
rows-preserved c =
    let counted : c.len.result ≡ length c.rows.functions.items = omega arith in
    rows_more function_row deref c.rows.yielded c.in-Some.names c.rows.functions.items c.push.new.self.items c.len.result c.rows.invariant counted c.in_ok-push.ensures.items

pub returns : goal.returns
returns c =
    let all : map deref c.rows.yielded ≡ c.args.rows.now.keys = search (rules, iter_end) in
    c.rows.invariant ∙ ap (λ files. numbered function_row 1 files) all
