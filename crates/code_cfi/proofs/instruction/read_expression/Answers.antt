use Rattle.code_cfi.proofs.ErrorLemmas.{on_any_error}
use Rattle.code_cfi.proofs.instruction.read_expression.Goals as goal

pub returns-in_err-block-clause-none : goal.returns-in_err-block-clause-none
returns-in_err-block-clause-none c = on_any_error c.from_residual.result _ (λ span rest at. c.in_err-block.ensures.none at.block rest at.block_at)
