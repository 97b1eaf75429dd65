use Rattle.std.proofs.Common.{rules}
use Rattle.std.specs.Prelude.{◌≢◌}
use Rattle.code_cfi.proofs.ErrorLemmas.{on_any_error}
use Rattle.code_cfi.proofs.UniqueCies.{no_personality}
use Rattle.code_cfi.proofs.cie.skip_personality.Goals as goal

pub returns-in_err-rest-clause-none : goal.returns-in_err-rest-clause-none
returns-in_err-rest-clause-none c =
    let other : c.in_ok-encoding.encoding ≢ 255 = search rules in
    on_any_error c.from_residual-in_err-rest.result _ (no_personality c.args.bytes.now c.in_ok-encoding.encoding c.in_ok-encoding.mid.now c.in_ok-encoding.ensures.found other c.in_err-rest.ensures.none)
