use Rattle.std.proofs.Common.{◌≡◌, ◌∙◌, All, None, Some, subst, sym, true≢false}
use Rattle.std.proofs.lemmas.Bool.Decides.{Decides-eqb}
use Rattle.std.proofs.lemmas.List.{append_cancel_left}
use Rattle.std.proofs.lemmas.Slice.Eq.{strip_prefix_is}
use Rattle.code_files.proofs.build_ids.is_extended.Goals as goal

pub returns-in-Some : goal.returns-in-Some
returns-in-Some c =
    let rest = c.in-Some.rest.now in
    let is = strip_prefix_is Decides-eqb c.args.long.now c.args.short.now (Some c.in-Some.rest) c.in-Some.ensures.cases in (
      λ h. record { rest = rest; is = is; zeros = c.are_zeros.ensures.0 h },
      λ e. c.are_zeros.ensures.1 (subst (All (λ byte. byte ≡ 0)) (append_cancel_left c.args.short.now e.rest rest (sym e.is ∙ is)) e.zeros),
    )

pub returns-in-None : goal.returns-in-None
returns-in-None c =
    let is = strip_prefix_is Decides-eqb c.args.long.now c.args.short.now None c.in-None.ensures.cases in
    (λ h. absurd (true≢false (sym h)), λ e. absurd (is e.rest e.is))
