use Rattle.std.proofs.Common.{◌≡◌, ◌≤◌, length, arith, ◌∙◌, ap}
use Rattle.code_symbols.specs.Layer.{symbol_in_layers}
use Rattle.code_symbols.proofs.LayerLemmas.{layers-merge_last}
use Rattle.code_symbols.proofs.table.merge_last.Goals as goal

pub returns-clause-same : goal.returns-clause-same
returns-clause-same c = λ x.
    let two : 2 ≤ c.len-count.result = omega (arith, c.requires, c.len-count.ensures) in
    let counted = c.args.layers.now.ok in
    let all : c.len-count.result ≡ length c.args.layers.now.items = omega (arith, c.len-count.ensures, counted) in
    ap (λ ls. symbol_in_layers ls x) c.truncate.ensures.items
    ∙ layers-merge_last c.args.layers.now.items c.len-count.result c.index.result.now c.index-2.result.now c.in_ok-merged.merged x two all c.index.ensures c.index-2.ensures (c.in_ok-merged.ensures x)
