use Rattle.std.proofs.Common.{◌<◌, ◌^◌, ◌∙◌, ℕ, List, length, refl, sym, ap, subst, arith}
use Rattle.std.proofs.lemmas.Result.{err_from_is_err_and}
use Rattle.demangle_text.specs.Cursor.{position_of}
use Rattle.demangle_text.proofs.NameLemmas.{HasWritten, nothing_written, part_written_at, all_written, why_parts_at}
use Rattle.demangle_text.proofs.WriteLemmas.{part_moves}
use Rattle.demangle_text.proofs.legacy.LegacyName.write.Goals as goal

pub parts-init : goal.parts-init
parts-init c =
    (refl, c.new-cursor.ensures.bytes, subst (λ (n : ℕ). HasWritten c.args.self.now.parts.now n c.args.text.now c.args.text.now) (sym c.new-cursor.ensures.position) (nothing_written c.args.self.now.parts.now c.args.text.now))

pub parts-preserved : goal.parts-preserved
parts-preserved c =
    let w = part_written_at c.args.self.now.parts.now c.parts.cursor c.write_next.new.cursor c.args.text.now c.parts.text c.write_next.new.text c.parts.invariant.1 c.write_next.ensures.all c.parts.invariant.2 c.in_ok-write_next.ensures.ok in
    (c.write_next.ensures.limit ∙ c.parts.invariant.0, w.0, w.1)

pub parts-smaller : goal.parts-smaller
parts-smaller c =
    omega (arith, part_moves c.parts.cursor c.write_next.new.cursor c.parts.text c.write_next.new.text c.in_ok-write_next.ensures.ok, c.position.ensures, c.parts-test.true)

pub returns-in_err-write_next-clause-why : goal.returns-in_err-write_next-clause-why
returns-in_err-write_next-clause-why c =
    let p = err_from_is_err_and c.from_residual.result c.from_residual.ensures.1 in
    let small : length c.args.self.now.parts.now < 2 ^ 64 = omega (arith, c.len-count.ensures.memory, ap (λ (bs : List ℕ). length bs) c.new-cursor.ensures.bytes) in
    let more : position_of c.parts.cursor < length c.args.self.now.parts.now = omega (arith, c.position.ensures, c.parts-test.true) in
    rw (p.1, p.2) (λ parts all. why_parts_at c.args.self.now.parts.now c.parts.cursor c.args.text.now c.parts.text _ parts c.parts.invariant.1 c.parts.invariant.2 all small more c.parts.invariant.0 c.in_err-write_next.ensures.why)

pub returns-clause-ok : goal.returns-clause-ok
returns-clause-ok c =
    all_written c.args.self.now.parts.now (position_of c.parts.cursor) c.args.text.now c.parts.text c.parts.invariant.2 (omega (arith, c.position.ensures, c.parts-test.false))
