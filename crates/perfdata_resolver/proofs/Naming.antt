-- The names of lines as lines are added.
use Rattle.std.proofs.Common.{◌≡◌, ◌∙◌, ◌<◌, inl, inr, ap, arith, subst, sym, ℕ, List, [], ◌∷◌, ◌++◌, length, length-append, slice_get}
use Rattle.perfdata_profile.proofs.Elements.{old_or_last}
use Rattle.perfdata_profile.specs.Values.{AreNamedIn, HasNames}
use Rattle.perfdata_profile.specs.declared.lines.Line.{Line}

pub named_push : (names : List (List ℕ)) (lines more : List Line) (line : Line) → more ≡ lines ++ line ∷ [] → AreNamedIn names lines → HasNames names line → AreNamedIn names more
named_push names lines more line pushed are is = λ index other at. elim (old_or_last lines line index other (ap (λ l. slice_get l index) (sym pushed) ∙ at)) [
  | inl was ↦ are index other was
  | inr last ↦ subst (HasNames names) (sym last.1) is
]

pub longer : (lines more : List Line) (line : Line) → more ≡ lines ++ line ∷ [] → 0 < length more
longer lines more line pushed = omega (arith, ap (λ (l : List Line). length l) pushed, length-append lines (line ∷ []))
