use Rattle.std.proofs.Common.{◌≡◌, true, false, rules, sym, ◌∙◌, inl, inr}
use Rattle.std.proofs.lemmas.Result.{err_from_is_err_and}
use Rattle.perfdata_events.proofs.fields.read_values.ReadValues.parse.Goals as goal

pub returns-in_err-group-clause-decodes : goal.returns-in_err-group-clause-decodes
returns-in_err-group-clause-decodes c =
    let is_group : c.contains.result ≡ true = search rules in
    let p = err_from_is_err_and c.from_residual.result c.from_residual.ensures.1 in
    rw (p.1, p.2) (inr (sym (c.contains.ensures tt) ∙ is_group, c.in_err-group.ensures.decodes))

pub returns-in_ok-group-clause-decodes : goal.returns-in_ok-group-clause-decodes
returns-in_ok-group-clause-decodes c =
    let is_group : c.contains.result ≡ true = search rules in
    (sym (c.contains.ensures tt) ∙ is_group, c.in_ok-group.ensures.decodes)

pub returns-in_err-single-clause-decodes : goal.returns-in_err-single-clause-decodes
returns-in_err-single-clause-decodes c =
    let is_single : c.contains.result ≡ false = search rules in
    let p = err_from_is_err_and c.from_residual-in_err-single.result c.from_residual-in_err-single.ensures.1 in
    rw (p.1, p.2) (inl (sym (c.contains.ensures tt) ∙ is_single, c.in_err-single.ensures.decodes))

pub returns-in_ok-single-clause-decodes : goal.returns-in_ok-single-clause-decodes
returns-in_ok-single-clause-decodes c =
    let is_single : c.contains.result ≡ false = search rules in
    (sym (c.contains.ensures tt) ∙ is_single, c.in_ok-single.ensures.decodes)
