use Rattle.std.proofs.Common.{◌∙◌, ap, refl, sym}
use Rattle.std.proofs.lemmas.Result.{err_from_is_err_and}
use Rattle.pprof.specs.Samples.{weighted}
use Rattle.pprof.proofs.Counting.{keeps, lacks_at, on_err, raises}
use Rattle.pprof.proofs.builder.raise.Goals as goal

pub returns-in_err-pad-clause-err : goal.returns-in_err-pad-clause-err
returns-in_err-pad-clause-err c =
    let old = c.args.rows.now.entries in
    on_err c.from_residual.result (keeps old _ c.args.index c.in-Some.values.now c.pad.new.values (sym c.in-Some.ensures.value) refl c.in_err-pad.ensures.err)

pub returns-in_err-pad-clause-lacks : goal.returns-in_err-pad-clause-lacks
returns-in_err-pad-clause-lacks c =
    let p = err_from_is_err_and c.from_residual.result c.from_residual.ensures.1 in
    rw p.1 (lacks_at c.args.rows.now.entries c.args.index c.args.type_count c.in-Some.values.now (sym c.in-Some.ensures.value) c.in_err-pad.ensures.lacks)

pub returns-clause-ok : goal.returns-clause-ok
returns-clause-ok c =
    let old = c.args.rows.now.entries in
    let before = c.in-Some.values.now in
    let items = c.add_weight.ensures ∙ ap (λ vs. weighted c.args.weight vs) c.in_ok-pad.ensures.ok in
    raises old _ c.args.index c.args.type_count c.args.weight before c.add_weight.new.values (sym c.in-Some.ensures.value) refl items
