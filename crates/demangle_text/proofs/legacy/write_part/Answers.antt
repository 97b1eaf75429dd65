use Rattle.std.proofs.Common.{◌≡◌, ◌++◌, ◌∙◌, length, encode_utf8}
use Rattle.std.specs.List.{between}
use Rattle.std.proofs.lemmas.Result.{err_from_is_err_and, IfErr-weaker, IfOk-weaker}
use Rattle.demangle_text.specs.Legacy.{with_colons, text_of_escapes, text_of_part}
use Rattle.demangle_text.specs.Text.{IsWhy, text_of}
use Rattle.demangle_text.proofs.FindLemmas.{appended, appended_all, why_all, why_part, begins_at, escape_step, no_escape_step, escapes_end}
use Rattle.demangle_text.proofs.legacy.write_part.Goals as goal

pub returns-in_err-write_plain-clause-why : goal.returns-in_err-write_plain-clause-why
returns-in_err-write_plain-clause-why c =
    let b = begins_at (text_of c.escapes.text) (text_of c.args.text.now) (text_of_part c.args.part.now) c.escapes.rest.now c.in-Some.plain.now c.in-Some.after.now c.in-Some.ensures.split c.in-Some.ensures.first c.escapes.invariant.1 in
    let p = err_from_is_err_and c.from_residual.result c.from_residual.ensures.1 in
    rw (p.1, p.2) (why_part c.args.text.now c.escapes.text (text_of_part c.args.part.now) (with_colons c.in-Some.plain.now) b.later _ b.same c.escapes.invariant.0 c.in_err-write_plain.ensures.why)

pub returns-in_err-put_char-clause-why : goal.returns-in_err-put_char-clause-why
returns-in_err-put_char-clause-why c =
    let step = escape_step (text_of c.escapes.text) (text_of c.args.text.now) (text_of_part c.args.part.now) c.escapes.rest.now c.in-Some.plain.now c.in-Some.after.now c.in-Some-escape.next.now c.in-Some-escape.character c.in-Some.ensures.split c.in-Some.ensures.first c.in-Some-escape.ensures.some c.escapes.invariant.1 in
    let same = appended (text_of c.args.text.now) (text_of c.escapes.text) (text_of c.write_plain.new.text) (text_of_part c.args.part.now) (with_colons c.in-Some.plain.now) (encode_utf8 c.in-Some-escape.character ++ text_of_escapes c.in-Some-escape.next.now) step c.in_ok-write_plain.ensures.ok in
    let p = err_from_is_err_and c.from_residual-in_err-put_char.result c.from_residual-in_err-put_char.ensures.1 in
    rw (p.1, p.2) (why_part c.args.text.now c.write_plain.new.text (text_of_part c.args.part.now) (encode_utf8 c.in-Some-escape.character) (text_of_escapes c.in-Some-escape.next.now) _ same (c.write_plain.ensures.limit ∙ c.escapes.invariant.0) c.in_err-put_char.ensures.why)

pub escapes-preserved : goal.escapes-preserved
escapes-preserved c =
    let step = escape_step (text_of c.escapes.text) (text_of c.args.text.now) (text_of_part c.args.part.now) c.escapes.rest.now c.in-Some.plain.now c.in-Some.after.now c.in-Some-escape.next.now c.in-Some-escape.character c.in-Some.ensures.split c.in-Some.ensures.first c.in-Some-escape.ensures.some c.escapes.invariant.1 in
    let same = appended (text_of c.args.text.now) (text_of c.escapes.text) (text_of c.write_plain.new.text) (text_of_part c.args.part.now) (with_colons c.in-Some.plain.now) (encode_utf8 c.in-Some-escape.character ++ text_of_escapes c.in-Some-escape.next.now) step c.in_ok-write_plain.ensures.ok in (
      c.put_char.ensures.limit ∙ c.write_plain.ensures.limit ∙ c.escapes.invariant.0,
      appended (text_of c.args.text.now) (text_of c.write_plain.new.text) (text_of c.put_char.new.self) (text_of_part c.args.part.now) (encode_utf8 c.in-Some-escape.character) (text_of_escapes c.in-Some-escape.next.now) same c.in_ok-put_char.ensures.ok,
    )

pub returns-in_default-escape-clause-ok : goal.returns-in_default-escape-clause-ok
returns-in_default-escape-clause-ok c =
    let step = no_escape_step (text_of c.escapes.text) (text_of c.args.text.now) (text_of_part c.args.part.now) c.escapes.rest.now c.in-Some.plain.now c.in-Some.after.now c.in-Some.ensures.split c.in-Some.ensures.first c.in_default-escape.ensures.none c.escapes.invariant.1 in
    let same = appended (text_of c.args.text.now) (text_of c.escapes.text) (text_of c.write_plain.new.text) (text_of_part c.args.part.now) (with_colons c.in-Some.plain.now) (between (length c.in-Some.plain.now) (length c.escapes.rest.now) c.escapes.rest.now) step c.in_ok-write_plain.ensures.ok in
    IfOk-weaker c.put.result (λ _. text_of c.put.new.self ≡ text_of c.write_plain.new.text ++ between (length c.in-Some.plain.now) (length c.escapes.rest.now) c.escapes.rest.now) (λ _. text_of c.put.new.self ≡ text_of c.args.text.now ++ text_of_part c.args.part.now)
    (λ x text. appended_all (text_of c.args.text.now) (text_of c.write_plain.new.text) (text_of c.put.new.self) (text_of_part c.args.part.now) (between (length c.in-Some.plain.now) (length c.escapes.rest.now) c.escapes.rest.now) same text)
    c.put.ensures.ok

pub returns-in_default-escape-clause-why : goal.returns-in_default-escape-clause-why
returns-in_default-escape-clause-why c =
    let step = no_escape_step (text_of c.escapes.text) (text_of c.args.text.now) (text_of_part c.args.part.now) c.escapes.rest.now c.in-Some.plain.now c.in-Some.after.now c.in-Some.ensures.split c.in-Some.ensures.first c.in_default-escape.ensures.none c.escapes.invariant.1 in
    let same = appended (text_of c.args.text.now) (text_of c.escapes.text) (text_of c.write_plain.new.text) (text_of_part c.args.part.now) (with_colons c.in-Some.plain.now) (between (length c.in-Some.plain.now) (length c.escapes.rest.now) c.escapes.rest.now) step c.in_ok-write_plain.ensures.ok in
    IfErr-weaker c.put.result (λ why. IsWhy c.write_plain.new.text (length (between (length c.in-Some.plain.now) (length c.escapes.rest.now) c.escapes.rest.now)) why) (λ why. IsWhy c.args.text.now (length (text_of_part c.args.part.now)) why)
    (λ why is. why_all c.args.text.now c.write_plain.new.text (text_of_part c.args.part.now) (between (length c.in-Some.plain.now) (length c.escapes.rest.now) c.escapes.rest.now) why same (c.write_plain.ensures.limit ∙ c.escapes.invariant.0) is)
    c.put.ensures.why

pub returns-clause-ok : goal.returns-clause-ok
returns-clause-ok c =
    let same = escapes_end (text_of c.escapes.text) (text_of c.args.text.now) (text_of_part c.args.part.now) c.escapes.rest.now c.in_default.ensures.none c.escapes.invariant.1 in
    IfOk-weaker c.write_plain-2.result (λ _. text_of c.write_plain-2.new.text ≡ text_of c.escapes.text ++ with_colons c.escapes.rest.now) (λ _. text_of c.write_plain-2.new.text ≡ text_of c.args.text.now ++ text_of_part c.args.part.now)
    (λ x text. appended_all (text_of c.args.text.now) (text_of c.escapes.text) (text_of c.write_plain-2.new.text) (text_of_part c.args.part.now) (with_colons c.escapes.rest.now) same text)
    c.write_plain-2.ensures.ok

pub returns-clause-why : goal.returns-clause-why
returns-clause-why c =
    let same = escapes_end (text_of c.escapes.text) (text_of c.args.text.now) (text_of_part c.args.part.now) c.escapes.rest.now c.in_default.ensures.none c.escapes.invariant.1 in
    IfErr-weaker c.write_plain-2.result (λ why. IsWhy c.escapes.text (length (with_colons c.escapes.rest.now)) why) (λ why. IsWhy c.args.text.now (length (text_of_part c.args.part.now)) why)
    (λ why is. why_all c.args.text.now c.escapes.text (text_of_part c.args.part.now) (with_colons c.escapes.rest.now) why same c.escapes.invariant.0 is)
    c.write_plain-2.ensures.why
