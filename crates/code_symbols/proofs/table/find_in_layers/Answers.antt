use Rattle.std.proofs.Common.{◌≡◌, ◌+◌, ◌-◌, ◌<◌, length, take, arith, ◌∙◌, ap, sym}
use Rattle.code_symbols.specs.Boundaries.{later_of}
use Rattle.code_symbols.specs.Layer.{symbol_in_layers}
use Rattle.code_symbols.proofs.LayerLemmas.{layers-more}
use Rattle.code_symbols.proofs.table.find_in_layers.Goals as goal

pub returns-in-Some : goal.returns-in-Some
returns-in-Some c =
    let ls = c.args.layers.now in
    let n = c.layers.count in
    let x = c.args.address in
    let lt : n - 1 < length ls = omega (arith, c.layers.invariant.within, c.layers-test.true) in
    let next : n ≡ n - 1 + 1 = omega (arith, c.layers-test.true) in
    sym (c.layers.invariant.same
    ∙ ap (λ k. symbol_in_layers (take k ls) x) next
    ∙ layers-more ls (n - 1) c.index-layers-count.result x lt c.index-layers-count.is
    ∙ ap (λ s. later_of (symbol_in_layers (take (n - 1) ls) x) s) (sym c.in-Some.ensures))

pub layers-preserved : goal.layers-preserved
layers-preserved c =
    let ls = c.args.layers.now in
    let n = c.layers.count in
    let x = c.args.address in
    let lt : n - 1 < length ls = omega (arith, c.layers.invariant.within, c.layers-test.true) in
    let next : n ≡ n - 1 + 1 = omega (arith, c.layers-test.true) in
    record {
      within = omega (arith, lt);
      same = c.layers.invariant.same
          ∙ ap (λ k. symbol_in_layers (take k ls) x) next
          ∙ layers-more ls (n - 1) c.index-layers-count.result x lt c.index-layers-count.is
          ∙ ap (λ s. later_of (symbol_in_layers (take (n - 1) ls) x) s) (sym c.in-None.ensures);
    }
