use Rattle.std.proofs.Common.{◌≡◌, ℕ, true, refl, subst, arith}
use Rattle.std.specs.List.{AllPass}
use Rattle.std.proofs.lemmas.List.{take_all}
use Rattle.std.proofs.lemmas.List.Elements.{All-more}
use Rattle.demangle_text.specs.Legacy.{is_part_byte}
use Rattle.demangle_text.proofs.legacy.are_part_bytes.Goals as goal

pub bytes-preserved : goal.bytes-preserved
bytes-preserved c =
    All-more (λ (b : ℕ). is_part_byte b ≡ true) c.args.bytes.now c.bytes.byte-index 0 c.bytes-test.true c.bytes.invariant (let e = c.is_part_byte.ensures in grind arith)

pub returns : goal.returns
returns c =
    (λ _. subst (AllPass is_part_byte) (take_all c.bytes.byte-index c.args.bytes.now (omega (arith, c.bytes-test.false))) c.bytes.invariant, λ _. refl)
