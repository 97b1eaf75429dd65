use Rattle.code_cfi.proofs.ErrorLemmas.{on_any_error}
use Rattle.code_cfi.proofs.leb128.read_block.Goals as goal

pub returns-in_err-size-clause-none : goal.returns-in_err-size-clause-none
returns-in_err-size-clause-none c = on_any_error c.from_residual.result _ (λ block rest at. c.in_err-size.ensures.none at.size at.mid at.number)
