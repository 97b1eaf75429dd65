use Rattle.std.proofs.Common.{◌≡◌, ◌∙◌, ◌<◌, ◌||◌, Bool, false, not, ap, arith, get_or, length, sym}
use Rattle.std.proofs.lemmas.Bool.{eq-eqb}
use Rattle.std.proofs.lemmas.List.Folds.{list_any_more}
use Rattle.std.proofs.lemmas.List.{take_all}
use Rattle.std.specs.List.{list_any}
use Rattle.pprof.specs.Tables.{has_number}
use Rattle.pprof.specs.declared.profile.Line.{Line}
use Rattle.pprof.proofs.builder.has_numbers.Goals as goal

pub lines-preserved : goal.lines-preserved
lines-preserved c =
    let lines = c.args.lines.now in
    let first : Line = record { function_id = 0; line = 0 } in
    let below : c.lines.line-index < length lines = omega arith in
    let next : Line = get_or lines c.lines.line-index first in
    let none : has_number next ≡ false = ap not (eq-eqb next.line 0 c.if-line-ne0.false) in
    list_any_more has_number lines c.lines.line-index first below ∙ ap (λ (b : Bool). b || has_number next) c.lines.invariant ∙ none

pub returns : goal.returns
returns c = sym (ap (list_any has_number) (sym (take_all c.lines.line-index c.args.lines.now (omega arith))) ∙ c.lines.invariant)
