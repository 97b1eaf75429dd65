use Rattle.code_cfi.proofs.ErrorLemmas.{on_any_error}
use Rattle.code_cfi.proofs.UniqueInstructions.{none_at}
use Rattle.code_cfi.proofs.instruction.read_value_rule.Goals as goal

pub returns-in_err-register-in-20-clause-none : goal.returns-in_err-register-in-20-clause-none
returns-in_err-register-in-20-clause-none c = on_any_error c.from_residual.result _ (λ known. none_at c.args.encoding.now c.args.bytes.now c.args.opcode 20 c.in-20.is c.in_err-register-in-20.ensures.none)

pub returns-in_err-register-in-21-clause-none : goal.returns-in_err-register-in-21-clause-none
returns-in_err-register-in-21-clause-none c = on_any_error c.from_residual-in_err-register-in-21.result _ (λ known. none_at c.args.encoding.now c.args.bytes.now c.args.opcode 21 c.in-21.is c.in_err-register-in-21.ensures.none)

pub returns-in_err-register-in-22-clause-none : goal.returns-in_err-register-in-22-clause-none
returns-in_err-register-in-22-clause-none c = on_any_error c.from_residual-in_err-register-in-22.result _ (λ known. none_at c.args.encoding.now c.args.bytes.now c.args.opcode 22 c.in-22.is c.in_err-register-in-22.ensures.none)
