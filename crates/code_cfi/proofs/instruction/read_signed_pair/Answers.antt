use Rattle.code_cfi.proofs.ErrorLemmas.{on_any_error}
use Rattle.code_cfi.proofs.UniqueInstructions.{no_signed_pair}
use Rattle.code_cfi.proofs.instruction.read_signed_pair.Goals as goal

pub returns-in_err-first-clause-none : goal.returns-in_err-first-clause-none
returns-in_err-first-clause-none c = on_any_error c.from_residual.result _ (λ m n rest at. c.in_err-first.ensures.none m at.mid at.first)

pub returns-in_err-second-clause-none : goal.returns-in_err-second-clause-none
returns-in_err-second-clause-none c =
    on_any_error c.from_residual-in_err-second.result _ (no_signed_pair c.args.bytes.now c.in_ok-first.first c.in_ok-first.rest.now c.in_ok-first.ensures.found c.in_err-second.ensures.none)
