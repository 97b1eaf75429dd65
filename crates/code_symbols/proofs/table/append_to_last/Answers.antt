use Rattle.std.proofs.Common.{◌≡◌, ◌-◌, ◌<◌, arith, length, None, Some}
use Rattle.std.specs.Prelude.{if◌then◌else◌, ◌&&◌}
use Rattle.std.proofs.lemmas.Result.{IfErr-weaker, IfOk-weaker}
use Rattle.code_symbols.specs.Boundaries.{covers}
use Rattle.code_symbols.proofs.LayerLemmas.{layers-replace_last}
use Rattle.code_symbols.proofs.table.append_to_last.Goals as goal

pub returns-clause-ok : goal.returns-clause-ok
returns-clause-ok c =
    let ls = c.args.layers.now.items in
    let counted = c.args.layers.now.ok in
    let some : 0 < length ls = omega (arith, c.if-count-eq0.false, c.len-count.ensures, counted) in
    let at : c.len-count.result - 1 ≡ length ls - 1 = omega (arith, c.len-count.ensures, counted) in
    IfOk-weaker c.append.result _ _ (λ appended same x. layers-replace_last ls (c.len-count.result - 1) c.index_mut.result.now c.append.new.self
    (if appended && covers c.args.start c.args.size x then Some c.args.index else None) x some at c.index_mut.ensures.value (same x)) c.append.ensures.ok

pub returns-clause-err : goal.returns-clause-err
returns-clause-err c =
    let ls = c.args.layers.now.items in
    let counted = c.args.layers.now.ok in
    let some : 0 < length ls = omega (arith, c.if-count-eq0.false, c.len-count.ensures, counted) in
    let at : c.len-count.result - 1 ≡ length ls - 1 = omega (arith, c.len-count.ensures, counted) in
    IfErr-weaker c.append.result _ _ (λ error same x. layers-replace_last ls (c.len-count.result - 1) c.index_mut.result.now c.append.new.self None x some at c.index_mut.ensures.value (same x)) c.append.ensures.err
