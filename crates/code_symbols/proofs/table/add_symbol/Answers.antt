use Rattle.std.proofs.Common.{◌∙◌, ap, None, Some}
use Rattle.std.specs.Prelude.{if◌then◌else◌, ◌&&◌}
use Rattle.code_symbols.specs.Boundaries.{covers, later_of}
use Rattle.code_symbols.specs.Layer.{symbol_in, symbol_in_layers}
use Rattle.code_symbols.proofs.LayerLemmas.{layers-push}
use Rattle.code_symbols.proofs.table.add_symbol.Goals as goal

pub returns-clause-ok : goal.returns-clause-ok
returns-clause-ok c = λ x fits.
    let before = symbol_in_layers c.args.layers.now.items x in
    let layer = c.in_ok-layer.layer in
    let covered = covers c.args.start c.args.size x in
    let same = c.in_ok-merge_equal.ensures x ∙ c.in_ok-append_to_last.ensures.ok x
    ∙ ap (λ b. later_of before (if b && covered then Some c.args.index else None)) c.if-branch.false in
    ap (λ ls. symbol_in_layers ls x) c.in_ok-push.ensures.items
    ∙ layers-push c.merge_equal.new.layers.items layer x
    ∙ ap (λ s. later_of s (symbol_in layer x)) same
    ∙ ap (λ s. later_of before s) (c.in_ok-layer.ensures x fits)
