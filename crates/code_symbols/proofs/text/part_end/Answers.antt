use Rattle.std.proofs.Common.{◌≡◌, ◌+◌, ◌-◌, length, get_or, arith, ap, ◌∙◌, eq-eqb}
use Rattle.std.proofs.lemmas.List.{get_or-drop, take_rest}
use Rattle.code_symbols.proofs.text.part_end.Goals as goal

pub returns-in-Some-clause-one : goal.returns-in-Some-clause-one
returns-in-Some-clause-one c = λ k low high newline.
    let text = c.args.bytes.now in
    let start = c.args.start in
    let at : start + (k - start) ≡ k = omega (arith, low) in
    let same = ap (λ rest. get_or rest (k - start) 0) (take_rest text start) ∙ get_or-drop start text (k - start) 0 ∙ ap (λ i. get_or text i 0) at in
    c.in-Some.ensures.0.before (k - start) (omega arith) (omega (arith, low, high)) (eq-eqb _ c.args.separator (same ∙ newline))

pub returns-in-None-clause-one : goal.returns-in-None-clause-one
returns-in-None-clause-one c = λ k low high newline.
    let text = c.args.bytes.now in
    let start = c.args.start in
    let at : start + (k - start) ≡ k = omega (arith, low) in
    let same = ap (λ rest. get_or rest (k - start) 0) (take_rest text start) ∙ get_or-drop start text (k - start) 0 ∙ ap (λ i. get_or text i 0) at in
    let inside = ap length (take_rest text start) in
    c.in-None.ensures (k - start) (omega arith) (omega (arith, low, high, inside)) (eq-eqb _ c.args.separator (same ∙ newline))
