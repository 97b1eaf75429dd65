use Rattle.code_cfi.proofs.ErrorLemmas.{on_any_error}
use Rattle.code_cfi.proofs.UniqueCies.{no_version_sizes}
use Rattle.code_cfi.proofs.cie.read_version.Goals as goal

pub returns-in_err-rest-clause-none : goal.returns-in_err-rest-clause-none
returns-in_err-rest-clause-none c =
    on_any_error c.from_residual-in_err-rest.result _
    (no_version_sizes c.args.body.now c.in_ok-version.version c.in_ok-version.after_version.now c.in_ok-string.string.now c.in_ok-string.after_string.now c.in_ok-version.ensures.found c.in_ok-string.ensures.found
    c.in_err-rest.ensures.none)
