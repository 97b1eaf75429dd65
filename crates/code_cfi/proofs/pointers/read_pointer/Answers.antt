use Rattle.code_cfi.proofs.ErrorLemmas.{on_any_error}
use Rattle.code_cfi.proofs.pointers.read_pointer.Goals as goal

pub returns-in_err-value-clause-none : goal.returns-in_err-value-clause-none
returns-in_err-value-clause-none c = on_any_error c.from_residual.result _ (λ n rest at. c.in_err-value.ensures.none at.stored rest at.number)
