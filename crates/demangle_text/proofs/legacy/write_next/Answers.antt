use Rattle.std.proofs.Common.{◌≡◌, ◌++◌, ℕ, List, length}
use Rattle.std.proofs.lemmas.Result.{err_from_is_err_and, IfErr-weaker, IfOk-weaker}
use Rattle.demangle_text.specs.Cursor.{position_of, unread}
use Rattle.demangle_text.specs.Legacy.{IsPart, written, text_of_part}
use Rattle.demangle_text.specs.steps.Legacy.{AppendsPart, separator}
use Rattle.demangle_text.specs.Text.{IsWhy, text_of}
use Rattle.demangle_text.proofs.WriteLemmas.{appends_part, why_separator, why_written}
use Rattle.demangle_text.proofs.legacy.write_next.Goals as goal

pub returns-in_err-part-clause-why : goal.returns-in_err-part-clause-why
returns-in_err-part-clause-why c =
    let p = err_from_is_err_and c.from_residual.result c.from_residual.ensures.1 in
    rw p.1 (λ other rest is same. absurd (c.in_err-part.ensures.none other rest is same))

pub returns-in_err-put-clause-why : goal.returns-in_err-put-clause-why
returns-in_err-put-clause-why c =
    let p = err_from_is_err_and c.from_residual-in_err-put.result c.from_residual-in_err-put.ensures.1 in
    rw (p.1, p.2) (λ other rest is same. why_separator c.args.cursor.now c.args.text.now other c.separator-separator.result.now c.position.result _ c.position.ensures c.separator-separator.ensures c.in_err-put.ensures.why)

pub returns-clause-ok : goal.returns-clause-ok
returns-clause-ok c =
    IfOk-weaker c.write_part.result (λ _. text_of c.write_part.new.text ≡ text_of c.put.new.self ++ text_of_part c.in_ok-part.part.now) (λ _. AppendsPart c.args.cursor.now c.part.new.cursor c.args.text.now c.write_part.new.text)
    (λ x text. appends_part c.args.cursor.now c.part.new.cursor c.args.text.now c.put.new.self c.write_part.new.text c.in_ok-part.part.now c.separator-separator.result.now c.position.result c.in_ok-part.ensures.part c.in_ok-part.ensures.bytes c.in_ok-part.ensures.position c.position.ensures c.separator-separator.ensures c.in_ok-put.ensures.ok text)
    c.write_part.ensures.ok

pub returns-clause-why : goal.returns-clause-why
returns-clause-why c =
    IfErr-weaker c.write_part.result (λ why. IsWhy c.put.new.self (length (text_of_part c.in_ok-part.part.now)) why) (λ why. (other rest : List ℕ) → IsPart other → unread c.args.cursor.now ≡ written other ++ rest → IsWhy c.args.text.now (length (separator (position_of c.args.cursor.now) ++ text_of_part other)) why)
    (λ why reason other rest is same. why_written c.args.cursor.now c.part.new.cursor c.args.text.now c.put.new.self c.in_ok-part.part.now other rest c.separator-separator.result.now c.position.result why c.part.ensures.memory c.in_ok-part.ensures.part c.in_ok-part.ensures.bytes is same c.position.ensures c.separator-separator.ensures c.in_ok-put.ensures.ok c.put.ensures.limit reason)
    c.write_part.ensures.why
