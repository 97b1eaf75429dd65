use Rattle.std.proofs.Common.{◌≡◌, ℕ, rules, tests}
use Rattle.std.specs.Prelude.{◌≢◌}
use Rattle.std.proofs.lemmas.Iterator.{IsFirst-from_position, YieldsList-from_slice}
use Rattle.code_cfi.proofs.UniqueCies.{no_string}
use Rattle.code_cfi.proofs.cie.read_string.Goals as goal

pub returns-in-None-clause-none : goal.returns-in-None-clause-none
returns-in-None-clause-none c =
    let first = IsFirst-from_position _ _ _ (λ (b : ℕ). b ≡ 0) (λ (b : ℕ). b ≢ 0) c.position.ensures.ran (YieldsList-from_slice c.args.bytes.now c.iter.ensures.rest) (λ x q k. search (rules, tests)) (λ x q k. search (rules, tests)) in
    no_string c.args.bytes.now c.position.result _ c.in-None.is first
