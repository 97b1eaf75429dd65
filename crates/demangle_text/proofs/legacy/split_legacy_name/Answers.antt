use Rattle.std.proofs.Common.{◌≡◌, ◌+◌, ◌<◌, ◌^◌, ℕ, Some, length, List, [], take, drop, sym, ap, ◌∙◌, subst, arith, le_refl}
use Rattle.std.specs.List.{between}
use Rattle.std.proofs.lemmas.Slice.{between_to_end}
use Rattle.demangle_text.specs.Legacy.{IsLegacyName}
use Rattle.std.proofs.lemmas.Result.{err_from_is_err_and}
use Rattle.demangle_text.specs.Cursor.{byte_at, position_of}
use Rattle.demangle_text.proofs.NameLemmas.{HasRead, nothing_read, no_name_at, part_read_at, name_read_at, legacy_name_at}
use Rattle.demangle_text.proofs.legacy.split_legacy_name.Goals.{then-start-eq0-via-then-start-eq0, then-start-eq0-via-else-start-eq0+then-not-is_hash}
use Rattle.demangle_text.proofs.legacy.split_legacy_name.Goals as goal

pub parts-init : goal.parts-init
parts-init c =
    (c.new-cursor.ensures.bytes, subst (λ (n : ℕ). HasRead c.args.name.now n 0 []) (sym c.new-cursor.ensures.position) (nothing_read c.args.name.now))

pub returns-in_err-last-clause-none : goal.returns-in_err-last-clause-none
returns-in_err-last-clause-none c =
    let p = err_from_is_err_and c.from_residual.result c.from_residual.ensures.1 in
    let small : length c.args.name.now < 2 ^ 64 = omega (arith, c.len-count.ensures.memory, ap (λ (bs : List ℕ). length bs) c.new-cursor.ensures.bytes) in
    rw p.1 (λ bytes suffix n. no_name_at c.args.name.now bytes suffix n c.parts.cursor c.parts.start c.parts.last.now c.parts.invariant.0 c.parts.invariant.1 small (λ e. let h = c.is_next.ensures.1 e in grind arith) c.in_err-last.ensures.none)

pub parts-preserved : goal.parts-preserved
parts-preserved c =
    part_read_at c.args.name.now c.in_ok-last.last.now c.parts.cursor c.part.new.cursor c.parts.start c.parts.last.now c.parts.invariant.0 c.part.ensures.all c.parts.invariant.1 c.in_ok-last.ensures.part c.in_ok-last.ensures.bytes c.in_ok-last.ensures.position c.position-start.result c.position-start.ensures

pub returns-then-start-eq0-clause-none : goal.returns-then-start-eq0-clause-none
returns-then-start-eq0-clause-none c = λ bytes suffix n.
    let small : length c.args.name.now < 2 ^ 64 = omega (arith, c.len-count.ensures.memory, ap (λ (bs : List ℕ). length bs) c.new-cursor.ensures.bytes) in
    let here : byte_at c.parts.cursor ≡ Some 69 = c.is_next.ensures.0 (grind arith) in
    let r = name_read_at c.args.name.now bytes suffix n c.parts.cursor c.parts.start c.parts.last.now c.parts.invariant.0 c.parts.invariant.1 small here in
    elim c.then-start-eq0.branch [
      | then-start-eq0-via-then-start-eq0 w ↦ absurd (omega (arith, r.0, w.if-start-eq0.true))
      | then-start-eq0-via-else-start-eq0+then-not-is_hash w ↦ let h = w.is_hash.ensures.1 r.1 in grind arith
    ]

pub returns-clause-name : goal.returns-clause-name
returns-clause-name c =
    let here : byte_at c.parts.cursor ≡ Some 69 = c.is_next.ensures.0 (grind arith) in
    let name = legacy_name_at c.args.name.now c.parts.cursor c.parts.start c.parts.last.now c.parts.invariant.0 c.parts.invariant.1 (omega (arith, c.if-start-eq0.false)) (c.is_hash.ensures.0 c.if-not-is_hash.false) here in
    let rest : between (c.position.result + 1) (length c.args.name.now) c.args.name.now ≡ drop (position_of c.parts.cursor + 1) c.args.name.now = between_to_end c.args.name.now (c.position.result + 1) (length c.args.name.now) (le_refl (length c.args.name.now)) ∙ ap (λ (p : ℕ). drop (p + 1) c.args.name.now) c.position.ensures in
    subst (λ (bs : List ℕ). IsLegacyName c.args.name.now (take c.parts.start c.args.name.now) bs) (sym rest) name
