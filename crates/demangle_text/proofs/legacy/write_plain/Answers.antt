use Rattle.std.proofs.Common.{◌≡◌, ◌∷◌, ◌++◌, ◌∙◌, List, ℕ, ap, sym, length}
use Rattle.std.proofs.lemmas.Result.{err_from_is_err_and, IfErr-weaker, IfOk-weaker}
use Rattle.demangle_text.specs.Legacy.{with_colons}
use Rattle.demangle_text.specs.Text.{IsWhy, text_of}
use Rattle.demangle_text.proofs.FindLemmas.{appended, appended_all, why_all, why_part, plain_step, plain_end}
use Rattle.demangle_text.proofs.legacy.write_plain.Goals as goal

pub returns-in_err-put-clause-why : goal.returns-in_err-put-clause-why
returns-in_err-put-clause-why c =
    let step = plain_step (text_of c.dots.text) (text_of c.args.text.now) (with_colons c.args.bytes.now) c.dots.rest.now c.in-Some.plain.now c.in-Some.after.now c.in-Some.ensures.split c.in-Some.ensures.first c.dots.invariant.1 in
    let p = err_from_is_err_and c.from_residual.result c.from_residual.ensures.1 in
    rw (p.1, p.2) (why_part c.args.text.now c.dots.text (with_colons c.args.bytes.now) c.in-Some.plain.now (with_colons (46 ∷ c.in-Some.after.now)) _ step c.dots.invariant.0 c.in_err-put.ensures.why)

pub returns-in_err-put-2-clause-why : goal.returns-in_err-put-2-clause-why
returns-in_err-put-2-clause-why c =
    let step = plain_step (text_of c.dots.text) (text_of c.args.text.now) (with_colons c.args.bytes.now) c.dots.rest.now c.in-Some.plain.now c.in-Some.after.now c.in-Some.ensures.split c.in-Some.ensures.first c.dots.invariant.1 in
    let same = ap (λ (bs : List ℕ). text_of c.put.new.self ++ bs) (sym c.after_dot.ensures.text) ∙ appended (text_of c.args.text.now) (text_of c.dots.text) (text_of c.put.new.self) (with_colons c.args.bytes.now) c.in-Some.plain.now (with_colons (46 ∷ c.in-Some.after.now)) step c.in_ok-put.ensures.ok in
    let p = err_from_is_err_and c.from_residual-in_err-put-2.result c.from_residual-in_err-put-2.ensures.1 in
    rw (p.1, p.2) (why_part c.args.text.now c.put.new.self (with_colons c.args.bytes.now) c.after_dot.result.0.now (with_colons c.after_dot.result.1.now) _ same (c.put.ensures.limit ∙ c.dots.invariant.0) c.in_err-put-2.ensures.why)

pub dots-preserved : goal.dots-preserved
dots-preserved c =
    let step = plain_step (text_of c.dots.text) (text_of c.args.text.now) (with_colons c.args.bytes.now) c.dots.rest.now c.in-Some.plain.now c.in-Some.after.now c.in-Some.ensures.split c.in-Some.ensures.first c.dots.invariant.1 in
    let same = ap (λ (bs : List ℕ). text_of c.put.new.self ++ bs) (sym c.after_dot.ensures.text) ∙ appended (text_of c.args.text.now) (text_of c.dots.text) (text_of c.put.new.self) (with_colons c.args.bytes.now) c.in-Some.plain.now (with_colons (46 ∷ c.in-Some.after.now)) step c.in_ok-put.ensures.ok in (
      c.put-in-Some.ensures.limit ∙ c.put.ensures.limit ∙ c.dots.invariant.0,
      appended (text_of c.args.text.now) (text_of c.put.new.self) (text_of c.put-in-Some.new.self) (with_colons c.args.bytes.now) c.after_dot.result.0.now (with_colons c.after_dot.result.1.now) same c.in_ok-put-2.ensures.ok,
    )

pub returns-clause-ok : goal.returns-clause-ok
returns-clause-ok c =
    let same = plain_end (text_of c.dots.text) (text_of c.args.text.now) (with_colons c.args.bytes.now) c.dots.rest.now c.in_default.ensures.none c.dots.invariant.1 in
    IfOk-weaker c.put-2.result (λ _. text_of c.put-2.new.self ≡ text_of c.dots.text ++ c.dots.rest.now) (λ _. text_of c.put-2.new.self ≡ text_of c.args.text.now ++ with_colons c.args.bytes.now)
    (λ x text. appended_all (text_of c.args.text.now) (text_of c.dots.text) (text_of c.put-2.new.self) (with_colons c.args.bytes.now) c.dots.rest.now same text)
    c.put-2.ensures.ok

pub returns-clause-why : goal.returns-clause-why
returns-clause-why c =
    let same = plain_end (text_of c.dots.text) (text_of c.args.text.now) (with_colons c.args.bytes.now) c.dots.rest.now c.in_default.ensures.none c.dots.invariant.1 in
    IfErr-weaker c.put-2.result (λ why. IsWhy c.dots.text (length c.dots.rest.now) why) (λ why. IsWhy c.args.text.now (length (with_colons c.args.bytes.now)) why)
    (λ why is. why_all c.args.text.now c.dots.text (with_colons c.args.bytes.now) c.dots.rest.now why same c.dots.invariant.0 is)
    c.put-2.ensures.why
