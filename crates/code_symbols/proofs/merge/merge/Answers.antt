use Rattle.std.proofs.Common.{List, [], ◌∷◌, ◌++◌, ◌∙◌, ap, sym, subst, inl, inr}
use Rattle.code_symbols.specs.declared.boundary.Boundary.{Boundary}
use Rattle.code_symbols.proofs.MergeLemmas.{Merges, merges_lower, merges_upper}
use Rattle.code_symbols.proofs.merge.merge.Goals as goal

pub boundaries-preserved : goal.boundaries-preserved
boundaries-preserved c =
    let lower : List Boundary = c.args.lower.now in
    let upper : List Boundary = c.args.upper.now in
    let f = c.next_merge_state-state.result in
    let grown = c.in_ok-push.ensures.items ∙ ap (λ s. c.boundaries.boundaries.items ++ record { start = f.start; symbol = s } ∷ []) c.later_symbol.ensures in
    subst (λ out. Merges lower upper f out) (sym grown) (elim c.next_merge_state-state.ensures [
      | inl t ↦ merges_lower lower upper c.boundaries.state c.boundaries.boundaries.items c.requires.lower c.requires.upper c.boundaries.invariant f t
      | inr t ↦ merges_upper lower upper c.boundaries.state c.boundaries.boundaries.items c.requires.lower c.requires.upper c.boundaries.invariant f t
    ])
