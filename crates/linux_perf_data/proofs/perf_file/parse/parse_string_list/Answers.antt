use Rattle.std.proofs.Common.{arith, length, drop, subst, ap, Bor, List, ℕ}
use Rattle.std.specs.Prelude.{map}
use Rattle.std.proofs.lemmas.List.{length-map, length_push}
use Rattle.std.proofs.lemmas.Result.{err_from_is_err_and}
use Rattle.linux_perf_data.specs.Values.{IsStringError}
use Rattle.linux_perf_data.proofs.StringLists.{texts_more, texts_need, texts_stop}
use Rattle.linux_perf_data.proofs.perf_file.parse.parse_string_list.Goals as goal

pub returns-in_err-text : goal.returns-in_err-text
returns-in_err-text c =
    let p = err_from_is_err_and c.from_residual.result c.from_residual.ensures.1 in
    let inv = c.texts.invariant in
    rw (p.1, p.2) (texts_stop c.args.endian c.args.bytes.now (map (λ s. s.now) c.texts.texts.items) c.in_err-text.field-0.0 c.if-bytes-lt4.false (omega (arith, length-map c.texts.texts.items (λ (s : Bor (List ℕ)). s.now), inv.count, c.read_u32-count.ensures)) inv.are (subst (λ l. IsStringError c.args.endian l c.in_err-text.field-0.0) inv.rest c.in_err-text.ensures))

pub texts-preserved : goal.texts-preserved
texts-preserved c =
    let inv = c.texts.invariant in
    let more = texts_more c.args.endian (drop 4 c.args.bytes.now) c.texts.rest.now c.in_ok-text.after.now c.texts.texts.items c.push.new.self.items c.in_ok-text.text inv.are inv.rest c.in_ok-text.ensures.0 c.in_ok-text.ensures.1 c.in_ok-text.ensures.2 c.in_ok-text.ensures.3 c.in_ok-push.ensures.items in
    record { count = omega (arith, inv.count, ap length c.in_ok-push.ensures.items, length_push c.texts.texts.items c.in_ok-text.text); are = more.0; rest = more.1 }

pub returns-in_err-push : goal.returns-in_err-push
returns-in_err-push c =
    let p = err_from_is_err_and c.from_residual-in_err-push.result c.from_residual-in_err-push.ensures.1 in
    let inv = c.texts.invariant in
    let text = c.in_ok-text.ensures in
    rw (p.1, p.2) (texts_need c.args.endian c.args.bytes.now c.texts.rest.now (map (λ s. s.now) c.texts.texts.items) c.in_ok-text.text.now c.if-bytes-lt4.false (omega (arith, length-map c.texts.texts.items (λ (s : Bor (List ℕ)). s.now), inv.count, c.read_u32-count.ensures)) inv.are inv.rest text.0 text.1 text.3)
