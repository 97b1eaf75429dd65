use Rattle.code_cfi.proofs.ErrorLemmas.{on_any_error}
use Rattle.code_cfi.proofs.UniqueInstructions.{none_at}
use Rattle.code_cfi.proofs.instruction.read_other.Goals as goal

pub returns-in_err-register-in-6-clause-none : goal.returns-in_err-register-in-6-clause-none
returns-in_err-register-in-6-clause-none c =
    on_any_error c.from_residual.result _ (λ l f r v. none_at c.args.encoding.now c.args.bytes.now c.args.opcode 6 c.in-6.is c.in_err-register-in-6.ensures.none)

pub returns-in_err-rest-in-46-clause-none : goal.returns-in_err-rest-in-46-clause-none
returns-in_err-rest-in-46-clause-none c =
    on_any_error c.from_residual-in_err-rest-in-46.result _ (λ l f r v. none_at c.args.encoding.now c.args.bytes.now c.args.opcode 46 c.in-46.is c.in_err-rest-in-46.ensures.none)
